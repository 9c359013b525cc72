pub mod KernelRuns
pub mod Whole
pub mod Ahead
