pub mod Either
pub mod Sorting
