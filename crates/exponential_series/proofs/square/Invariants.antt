-- `exponential_series::square` meets its contract. The invariant: the first i rows are made.
use mathlib.Core.Path.{◌≡◌}
use Prim.Native.Nat.{◌≤◌, ◌-◌}
use mathlib.Core.List.{[]}
use lib.ListN.{get_or}
use Rattle.matrix.specs.Arrays.{updated, row_times}
use Rattle.exponential_series.proofs.square.Given as goal

abbrev pub invariant-loop-i : goal.invariant-loop-i
invariant-loop-i l = (l.i ≤ l.m) × (l.out ≡ updated l.i (λ i r. row_times (get_or l.p i []) l.p l.m) l.initial.out)

abbrev pub decreases-loop-i : goal.decreases-loop-i
decreases-loop-i l = l.m - l.i
