-- `exponential_series::squared` meets its contract. The invariant: the odd one and k pairs of squarings are done.
use mathlib.Core.Path.{◌≡◌}
use Prim.Native.Nat.{◌≤◌, ◌-◌, ◌+◌, ◌%◌}
use lib.ListN.{length}
use Rattle.limits.specs.Limits.{block}
use Rattle.matrix.specs.Arrays.{Holds, lead}
use Rattle.matrix.specs.Exponential.{squarings}
use Rattle.exponential_series.proofs.squared.Given as goal

abbrev pub invariant-loop-k : goal.invariant-loop-k
invariant-loop-k l = (l.k ≤ l.pairs) × Holds l.m l.p (squarings l.m (l.count % 2 + (l.k + l.k)) (lead l.m l.fn.p)) × (length l.next ≡ block)

abbrev pub decreases-loop-k : goal.decreases-loop-k
decreases-loop-k l = l.pairs - l.k
