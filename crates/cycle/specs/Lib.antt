pub mod Fold
pub mod Elimination
pub mod Closed
pub mod FoldLaws
pub mod ClosedCycle
