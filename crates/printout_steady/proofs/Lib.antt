pub mod Lines
pub mod Examples
pub mod Texts
