use mathlib.Core.Path.{refl}
use native.Mathlib.Omega.{arith}
use Rattle.matrix.specs.Exponential.{halved_times}
use Rattle.matrix.proofs.Steps.{halved_more}
use Rattle.exponential_series.proofs.halved.Goals as goal

pub loop-k-init : goal.loop-k-init
unfolding halved_times
loop-k-init c = (omega arith, record { width = c.told-a; part = refl })

pub loop-k-preserved : goal.loop-k-preserved
loop-k-preserved c = (omega arith, halved_more _ c.requires _ _ c.loop-k.invariant.1 c.halve.ensures)
