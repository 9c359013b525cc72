-- The laws of a run, and its theorems.
pub mod ListLaws
pub mod Times
pub mod FirstStop
pub mod Effects
pub mod Frame
pub mod RowCounts
pub mod LastRow
pub mod ReadingCounts
pub mod Independence
pub mod Conditions
pub mod Budgets
pub mod Theorems
pub mod EntryLaws
pub mod Bench
