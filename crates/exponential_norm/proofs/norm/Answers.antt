use mathlib.Core.Path.{◌≡◌, refl}
use mathlib.Core.List.{[]}
use Prim.Native.Nat.{◌<◌}
use native.Mathlib.Numerals.{add-one}
use native.Mathlib.Omega.{arith}
use lib.ListN.{get_or}
use lib.Ieee.{of_bits}
use Rattle.matrix.specs.Exponential.{norm_to, row_sum}
use Rattle.matrix.proofs.Fronts.{front-item}
use Rattle.exponential_norm.proofs.norm.Goals as goal

pub loop-row-init : goal.loop-row-init
unfolding norm_to of_bits
loop-row-init g c = refl

pub loop-row-preserved : goal.loop-row-preserved
unfolding norm_to row_sum of_bits
loop-row-preserved g c =
    let i = c.loop-row.row-index in
    let item : (i < c.args.m) × (c.row-item.result ≡ get_or c.args.a.now i []) = front-item c.args.m c.args.a.now i [] (omega arith) c.loop-row-test.true c.row-item.is in
    rw (add-one, c.max-largest.ensures, c.row_sum.ensures, c.loop-row.invariant, ← item.1)
