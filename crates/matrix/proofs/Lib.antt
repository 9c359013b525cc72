pub mod Filled
pub mod Made
pub mod Updated
pub mod Rows
pub mod Fronts
pub mod Steps
pub mod Halvings
pub mod Cases
