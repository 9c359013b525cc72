pub mod Volumes
pub mod Bytes
pub mod Places
pub mod Reading
