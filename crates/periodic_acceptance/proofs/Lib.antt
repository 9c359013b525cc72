-- The laws of the closed cycle's chain.
pub mod Answered
-- The laws of the acceptance.
pub mod Chain
