-- 01, "The sheet and its printout": the tolerance of a sheet's closed cycle. Definitions only.
use Rattle.std.specs.Prelude.{List, ℕ}
use Rattle.cycle.specs.declared.SteadyStateTolerance.{SteadyStateTolerance}
use Rattle.sheet_kernel.specs.Values.{double_of}

-- the last two words of the window
unfoldable pub tolerance_of : List ℕ → SteadyStateTolerance
tolerance_of w = record { absolute = double_of w 7; relative = double_of w 8 }
