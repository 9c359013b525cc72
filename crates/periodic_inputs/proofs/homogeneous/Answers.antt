-- `periodic_inputs::homogeneous` meets its contract.
use mathlib.Core.List.{append_assoc}
use native.Mathlib.Numerals.{add-one}
use native.Mathlib.Omega.{arith}
use lib.Ieee.{nan}
use lib.ListN.{drop_of_length-le}
use lib.Seq.{drop-cons}
use Rattle.std.proofs.lemmas.List.{append-nil}
use Rattle.protocol.specs.declared.Event.TheVariants.{Bolus}
use Rattle.cycle.specs.Closed.{homogeneous}
use Rattle.periodic_inputs.proofs.homogeneous.Goals as goal

pub loop-event-preserved : goal.loop-event-preserved
unfolding homogeneous
loop-event-preserved c = (
  omega (arith, c.push.ensures.len),
  rw (c.push.ensures.items, c.zeroed.ensures, append_assoc, add-one)
      (rw (drop-cons _ _ (Bolus nan 0 nan) c.loop-event-test.true) at c.loop-event.invariant.1),
)

pub returns : goal.returns
unfolding homogeneous
returns c = rw (drop_of_length-le _ c.loop-event-test.false, append-nil) at c.loop-event.invariant.1
