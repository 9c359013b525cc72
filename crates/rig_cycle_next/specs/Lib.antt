pub mod NextRun
pub mod Solves
pub mod NextPrintout
