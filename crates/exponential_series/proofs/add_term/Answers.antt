use mathlib.Core.Path.{refl}
use mathlib.Core.List.{[]}
use Rattle.matrix.specs.Arrays.{updated, updated_from}
use Rattle.matrix.proofs.Updated.{updated_more, updated-front}
use Rattle.exponential_series.proofs.add_term.Goals as goal

pub loop-i-init : goal.loop-i-init
unfolding updated updated_from
loop-i-init c = refl

pub loop-i-preserved : goal.loop-i-preserved
loop-i-preserved c = updated_more _ [] _ _ c.loop-i.invariant c.added.ensures

pub returns : goal.returns
returns c = updated-front _ _ _ _ c.loop-i-test.false c.loop-i.invariant
