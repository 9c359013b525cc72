pub mod Tests
pub mod Positive
