use mathlib.Core.Path.{◌≡◌, ◌∙◌, sym}
use native.Mathlib.Omega.{arith}
use Prim.Native.Nat.{suc, ◌-◌, ◌+◌}
use native.Mathlib.Nat.{sub-zero}
use native.Mathlib.Numerals.{add-one}
use lib.Ieee.{of_bits}
use Rattle.matrix.specs.Exponential.{halvings, halving_count}
use Rattle.matrix.proofs.Halvings.{halvings-stop, halvings-go}
use Rattle.exponential_norm.proofs.count_halvings.Goals as goal

pub returns-then-not-is_finite : goal.returns-then-not-is_finite
unfolding halving_count
returns-then-not-is_finite c = rw (← c.is_finite.ensures, c.if-not-is_finite.true)

pub loop-n-init : goal.loop-n-init
unfolding halving_count
loop-n-init c = rw (← c.is_finite.ensures, c.if-not-is_finite.false, sub-zero)

pub returns-then-not-left-threshold : goal.returns-then-not-left-threshold
unfolding of_bits
returns-then-not-left-threshold c = sym (halvings-stop _ _ _ _ (c.if-not-left-threshold.true)) ∙ c.loop-n.invariant

pub loop-n-preserved : goal.loop-n-preserved
unfolding of_bits
loop-n-preserved c =
    let e : suc (c.args.most - (c.loop-n.n + 1)) ≡ c.args.most - c.loop-n.n = omega arith in
    rw (e, add-one) (sym (halvings-go _ _ _ _ (c.if-not-left-threshold.false)) ∙ c.loop-n.invariant)

pub returns-else-not-left-threshold : goal.returns-else-not-left-threshold
unfolding halvings of_bits
returns-else-not-left-threshold c =
    let e : c.args.most - c.loop-n.n ≡ 0 = omega arith in
    sym (halvings-go _ 0 _ _ (c.if-not-left-threshold.false)) ∙ rw e at c.loop-n.invariant
