-- The laws of the candidate.
pub mod Chain
