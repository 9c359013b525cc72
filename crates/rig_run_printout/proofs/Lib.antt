pub mod Lines
pub mod Runs
pub mod Sheets
pub mod Most
