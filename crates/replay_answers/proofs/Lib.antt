pub mod Exits
pub mod Behind
pub mod Steps
pub mod PlacedSteps
pub mod Sheets
