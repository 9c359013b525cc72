-- The laws of the folded cycle and of the closed cycle, and their theorems.
pub mod Rounding
pub mod Results
pub mod Folds
pub mod InnerRuns
pub mod Candidates
pub mod Scales
pub mod Residuals
pub mod Theorems
pub mod Bench
pub mod Stays
