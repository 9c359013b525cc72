-- What the readers of a sheet's bodies ask of their bytes. Definitions only.
use Rattle.std.specs.Prelude.{List, ℕ, ◌/◌, ◌≤◌, length}
use Rattle.limits.specs.Limits.{most_cycle_events, most_samples, event_size}

-- a window of nine words, and no more samples and events than a sheet holds
pub record Readable (w ss es : List ℕ) : Type 0 where
  pub window : 72 ≤ length w
  pub samples : length ss / 8 ≤ most_samples
  pub events : length es / 8 / event_size ≤ most_cycle_events
