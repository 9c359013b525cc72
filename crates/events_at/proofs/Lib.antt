pub mod Marking
pub mod SummedRates
pub mod Happening
