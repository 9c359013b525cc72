pub mod Counted
pub mod Cases
pub mod NewSound
