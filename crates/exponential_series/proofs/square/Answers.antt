use mathlib.Core.Path.{refl}
use native.Mathlib.Omega.{arith}
use mathlib.Core.List.{[]}
use Rattle.matrix.specs.Arrays.{updated, updated_from}
use Rattle.matrix.proofs.Updated.{updated_more, updated-all}
use Rattle.exponential_series.proofs.square.Goals as goal

pub loop-i-init : goal.loop-i-init
unfolding updated updated_from
loop-i-init c = (omega arith, refl)

pub loop-i-preserved : goal.loop-i-preserved
unfolding updated updated_from
loop-i-preserved c = (omega arith, updated_more _ [] _ _ c.loop-i.invariant.1 c.times.ensures)

pub returns : goal.returns
unfolding updated updated_from
returns c = updated-all _ _ _ _ c.loop-i.invariant.0 c.loop-i-test.false c.loop-i.invariant.1
