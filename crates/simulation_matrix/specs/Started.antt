-- A run's progress at its start.
use Rattle.std.specs.Prelude.{List, ℕ, Float}
use Rattle.rows.specs.declared.Progress.{Progress}

abbrev pub started : List Float → ℕ → Progress
started a budget = record { amounts = a; left = budget; made = 0; rows = 0 }
