pub mod Writing
pub mod Lengths
pub mod Printing
pub mod Examples
pub mod Replies
