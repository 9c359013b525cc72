pub mod Writing
pub mod Counts
