pub mod Doubles
pub mod Lists
pub mod Sort
