-- `exponential_series::add_term` meets its contract. The invariant: the first i rows are made.
use mathlib.Core.Path.{◌≡◌}
use mathlib.Core.List.{[]}
use lib.ListN.{get_or}
use Rattle.matrix.specs.Arrays.{updated, row_sum_of}
use Rattle.exponential_series.proofs.add_term.Given as goal

abbrev pub invariant-loop-i : goal.invariant-loop-i
invariant-loop-i l = l.row-items ≡ updated l.i (λ i r. row_sum_of r (get_or l.term i [])) l.initial.row-items
