-- The laws of a boundary.
pub mod Blocks
