pub mod Places
pub mod Rates
