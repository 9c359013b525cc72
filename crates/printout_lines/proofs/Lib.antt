pub mod Lengths
pub mod Most
