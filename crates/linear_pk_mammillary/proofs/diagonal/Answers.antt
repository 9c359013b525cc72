use mathlib.Core.Path.{refl}
use native.Mathlib.Numerals.{add-one}
use Rattle.linear_pk_mammillary.specs.Rates.{diagonal_to}
use Rattle.linear_pk_mammillary.proofs.diagonal.Goals as goal

pub loop-q-init : goal.loop-q-init
unfolding diagonal_to
loop-q-init c = refl

pub loop-q-preserved : goal.loop-q-preserved
unfolding diagonal_to
loop-q-preserved c = rw (add-one, c.loop-q.invariant)
