pub mod Claims
pub mod Shown
