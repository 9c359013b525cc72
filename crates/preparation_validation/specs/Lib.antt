pub mod Seen
pub mod Validation
