use mathlib.Core.Path.{refl}
use mathlib.Core.List.{[]}
use lib.Ieee.{of_bits}
use Rattle.matrix.specs.Arrays.{updated, updated_from}
use Rattle.matrix.proofs.Updated.{updated_more, updated-front}
use Rattle.matrix.proofs.Steps.{identity-made}
use Rattle.exponential_series.proofs.identity.Goals as goal

pub returns : goal.returns
unfolding of_bits
returns c = identity-made _ c.requires (updated-front _ _ _ _ c.loop-i-test.false c.loop-i.invariant)

pub loop-i-init : goal.loop-i-init
unfolding of_bits updated updated_from
loop-i-init c = refl

pub loop-i-preserved : goal.loop-i-preserved
unfolding of_bits updated updated_from
loop-i-preserved c = updated_more _ [] _ _ c.loop-i.invariant refl
