-- The laws of the residuals.
pub mod States
