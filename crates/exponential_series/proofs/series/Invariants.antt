-- `exponential_series::series` meets its contract. The invariant: k terms are summed.
use Prim.Native.Nat.{◌≤◌, ◌-◌}
use Rattle.matrix.specs.Arrays.{Holds, lead}
use Rattle.matrix.specs.Exponential.{series}
use Rattle.exponential_series.proofs.series.Given as goal

abbrev pub invariant-loop-k : goal.invariant-loop-k
invariant-loop-k l = (l.k ≤ l.terms) × Holds l.m l.term (series l.m (lead l.m l.a) l.k).term × Holds l.m l.sum (series l.m (lead l.m l.a) l.k).sum

abbrev pub decreases-loop-k : goal.decreases-loop-k
decreases-loop-k l = l.terms - l.k
