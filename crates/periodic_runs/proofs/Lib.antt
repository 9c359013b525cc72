-- The laws of the inner runs.
pub mod Inner
-- The laws of the columns of the unit amounts.
pub mod UnitRuns
-- The zeroed list passes where the list does.
pub mod ZeroedRuns
