pub mod Values
pub mod CycleTolerance
pub mod Read
pub mod SheetWords
