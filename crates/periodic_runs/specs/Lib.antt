pub mod Ends
pub mod Columns
