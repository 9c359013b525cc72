pub mod Written
pub mod Onward
pub mod Sides
pub mod Lent
pub mod Standing
pub mod Legs
