-- `exponential_norm::norm` meets its contract. The invariant: the largest of the first row sums.
use mathlib.Core.Path.{◌≡◌}
use Rattle.matrix.specs.Exponential.{norm_to}
use Rattle.exponential_norm.proofs.norm.Given as goal

abbrev pub invariant-loop-row : goal.invariant-loop-row
invariant-loop-row g l = l.largest ≡ norm_to l.a l.m l.row-index
