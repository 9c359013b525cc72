-- `exponential_series::identity` meets its contract. The invariant: the first i rows have their ones.
use mathlib.Core.Path.{◌≡◌}
use lib.ListN.{set}
use Rattle.binary64.specs.Doubles.{one}
use Rattle.matrix.specs.Arrays.{updated}
use Rattle.exponential_series.proofs.identity.Given as goal

abbrev pub invariant-loop-i : goal.invariant-loop-i
invariant-loop-i l = l.row-items ≡ updated l.i (λ i r. set r i one) l.initial.row-items
