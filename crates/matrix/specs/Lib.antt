pub mod Matrix
pub mod Exponential
pub mod Arrays
