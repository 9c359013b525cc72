pub mod Outcomes
pub mod Parameters
pub mod Placed
pub mod Sheet
pub mod Tally
pub mod Words
