pub mod Propagator
pub mod Amounts
