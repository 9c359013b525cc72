pub mod Words
pub mod Head
pub mod Places
