-- `exponential_series::next_term` meets its contract. The invariant: the first rows are made.
use mathlib.Core.Path.{◌≡◌}
use Rattle.matrix.specs.Arrays.{updated, row_times, row_quotient}
use Rattle.exponential_series.proofs.next_term.Given as goal

abbrev pub invariant-loop-row : goal.invariant-loop-row
invariant-loop-row l = l.row-items ≡ updated l.row-index (λ i r. row_quotient (row_times r l.a l.m) l.x) l.initial.row-items
