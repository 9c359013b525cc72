pub mod KernelRun
pub mod Entries
