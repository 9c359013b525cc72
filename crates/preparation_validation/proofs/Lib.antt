pub mod Folds
pub mod Tests
