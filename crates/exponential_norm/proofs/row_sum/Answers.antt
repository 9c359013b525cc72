use mathlib.Core.Path.{refl}
use Prim.Native.Nat.{◌<◌}
use native.Mathlib.Numerals.{add-one}
use native.Mathlib.Omega.{arith}
use lib.Seq.{get_or-take}
use lib.Ieee.{of_bits, neg, nan}
use Rattle.std.proofs.Common.{length-take-le}
use Rattle.matrix.specs.Matrix.{sum_to}
use Rattle.exponential_norm.proofs.row_sum.Goals as goal

pub loop-x-init : goal.loop-x-init
unfolding neg of_bits sum_to
loop-x-init g c = refl

pub loop-x-preserved : goal.loop-x-preserved
unfolding neg of_bits sum_to
loop-x-preserved g c =
    let below : c.loop-x.x-index < c.args.m = rw (length-take-le c.args.m c.args.row.now (omega arith)) at c.loop-x-test.true in
    rw (add-one, c.abs-sum.ensures, c.loop-x.invariant, get_or-take c.args.m c.args.row.now c.loop-x.x-index nan below)
