pub mod Amounts
pub mod Words
