-- `linear_pk_propagator::amount` meets its contract. The invariant: the sum of the first j pairs.
use mathlib.Core.Path.{◌≡◌}
use Prim.Native.Nat.{◌≤◌, ◌-◌}
use Rattle.linear_pk_propagator.specs.Amounts.{amount_to}
use Rattle.linear_pk_propagator.proofs.amount.Given as goal

abbrev pub invariant-loop-j : goal.invariant-loop-j
invariant-loop-j l = (l.j ≤ l.n) × (l.sum ≡ amount_to l.p l.n l.amounts l.rates l.duration l.i l.j)

abbrev pub decreases-loop-j : goal.decreases-loop-j
decreases-loop-j l = l.n - l.j
