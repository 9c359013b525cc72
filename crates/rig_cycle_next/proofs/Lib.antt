pub mod Next
pub mod Printing
