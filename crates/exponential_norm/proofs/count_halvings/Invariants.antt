-- `exponential_norm::count_halvings` meets its contract. The invariant: what is left to count gives the whole answer.
use mathlib.Core.Path.{◌≡◌}
use Prim.Native.Nat.{suc, ◌-◌}
use Rattle.matrix.specs.Exponential.{halvings, halving_count}
use Rattle.exponential_norm.proofs.count_halvings.Given as goal

abbrev pub invariant-loop-n : goal.invariant-loop-n
invariant-loop-n l = halvings l.threshold (suc (l.most - l.n)) l.n l.left ≡ halving_count l.threshold l.most l.norm
