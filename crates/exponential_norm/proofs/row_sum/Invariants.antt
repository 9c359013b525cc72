-- `exponential_norm::row_sum` meets its contract. The invariant: the sum of the first magnitudes.
use mathlib.Core.Path.{◌≡◌}
use Rattle.binary64.specs.Doubles.{magnitude}
use Rattle.matrix.specs.Matrix.{cell, sum_to}
use Rattle.exponential_norm.proofs.row_sum.Given as goal

abbrev pub invariant-loop-x : goal.invariant-loop-x
invariant-loop-x g l = l.sum ≡ sum_to (λ j. magnitude (cell l.row j)) l.x-index
