-- `exponential_series::halved` meets its contract. The invariant: k halvings are done.
use Prim.Native.Nat.{◌≤◌, ◌-◌}
use Rattle.matrix.specs.Arrays.{Holds, lead}
use Rattle.matrix.specs.Exponential.{halved_times}
use Rattle.exponential_series.proofs.halved.Given as goal

abbrev pub invariant-loop-k : goal.invariant-loop-k
invariant-loop-k l = (l.k ≤ l.count) × Holds l.m l.a (halved_times l.m l.k (lead l.m l.initial.a))

abbrev pub decreases-loop-k : goal.decreases-loop-k
decreases-loop-k l = l.count - l.k
