-- `exponential_series::halve` meets its contract. The invariant: the first rows are made.
use mathlib.Core.Path.{◌≡◌}
use Rattle.matrix.specs.Arrays.{updated, row_half}
use Rattle.exponential_series.proofs.halve.Given as goal

abbrev pub invariant-loop-row : goal.invariant-loop-row
invariant-loop-row l = l.row-items ≡ updated l.row-index (λ i r. row_half r) l.initial.row-items
