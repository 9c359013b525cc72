-- The laws of the floor.
pub mod Floors
