pub mod Model
pub mod Sheet
pub mod Reader
pub mod Readable
