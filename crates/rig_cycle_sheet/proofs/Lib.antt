pub mod Refusals
pub mod Closes
