pub mod Counts
pub mod Cases
