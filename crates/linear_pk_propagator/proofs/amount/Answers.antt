use mathlib.Core.Path.{refl}
use native.Mathlib.Omega.{arith}
use native.Mathlib.Nat.{le_antisymm}
use native.Mathlib.Numerals.{add-one}
use lib.Ieee.{of_bits, neg}
use Rattle.matrix.specs.Matrix.{sum_to}
use Rattle.linear_pk_propagator.specs.Amounts.{amount_to}
use Rattle.linear_pk_propagator.proofs.amount.Goals as goal

pub loop-j-preserved : goal.loop-j-preserved
unfolding sum_to amount_to
loop-j-preserved c = (omega arith, rw (add-one, c.loop-j.invariant.1))

pub loop-j-init : goal.loop-j-init
unfolding amount_to neg of_bits sum_to
loop-j-init c = (omega arith, refl)

pub returns : goal.returns
unfolding amount_to neg of_bits sum_to
returns c = rw (le_antisymm c.loop-j.invariant.0 c.loop-j-test.false) at c.loop-j.invariant.1
