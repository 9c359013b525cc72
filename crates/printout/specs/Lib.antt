pub mod Printout
pub mod Cells
pub mod Printouts
pub mod Replies
