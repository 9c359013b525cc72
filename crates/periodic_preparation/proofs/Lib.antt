-- The laws of what is ahead of the runs.
pub mod Ready
