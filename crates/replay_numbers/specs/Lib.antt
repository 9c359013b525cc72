pub mod Doubles
pub mod Text
