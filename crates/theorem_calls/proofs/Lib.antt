pub mod Doubles
pub mod Calls
pub mod Shown
