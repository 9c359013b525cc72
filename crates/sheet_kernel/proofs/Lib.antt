pub mod Models
pub mod Placed
pub mod Kernels
pub mod Cycles
