pub mod RowLengths
pub mod Lengths
