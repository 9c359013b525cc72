pub mod Entry
pub mod Kept
pub mod Slices
