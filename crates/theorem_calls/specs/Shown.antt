-- Demand 3 of a call of the entry that `rig-steady` calls: what stands in the output. A claim, no proof.
use Rattle.std.specs.Prelude.{◌≡◌, ℕ, ◌≤◌, ◌<◌, List, length, take, drop}
use Rattle.rig_steady_sheet.specs.SteadySheet.{most_steady_bytes}
use Rattle.theorem_runs_and_cycles.specs.Printed.{Printed}

-- the bytes bs, the number and the length that are replied, and the output before and behind the call
pub record Shown (bs old : List ℕ) (number size : ℕ) (new : List ℕ) : Type 0 where
  pub room : most_steady_bytes ≤ length old → 0 < size
  -- where bytes are written, they and the number are the printout
  pub printed : 0 < size → Printed bs (record { number = number; text = take size new })
  -- the cells behind them are as they were
  pub behind : drop size new ≡ drop size old
