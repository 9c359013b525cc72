-- The laws of the blocks.
pub mod Puts
pub mod Parts
pub mod Steps
pub mod Kernel
pub mod Exits
pub mod Lengths
