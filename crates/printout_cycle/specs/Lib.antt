pub mod Closes
pub mod Lines
pub mod CyclePrintout
