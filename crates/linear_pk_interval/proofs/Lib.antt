pub mod Laid
pub mod Cases
