use mathlib.Core.Path.{refl}
use mathlib.Core.List.{[]}
use Rattle.matrix.specs.Arrays.{updated, updated_from}
use Rattle.matrix.proofs.Updated.{updated_more, updated-front}
use Rattle.exponential_series.proofs.halve.Goals as goal

pub loop-row-init : goal.loop-row-init
unfolding updated updated_from
loop-row-init c = refl

pub loop-row-preserved : goal.loop-row-preserved
loop-row-preserved c = updated_more _ [] _ _ c.loop-row.invariant c.halved.ensures

pub returns : goal.returns
returns c = updated-front _ _ _ _ c.loop-row-test.false c.loop-row.invariant
