pub mod Readings
pub mod Interval
