pub mod States
pub mod Lengths
pub mod Lines
pub mod Examples
