-- `fold_stop::stop_of` meets its contract.
use native.Mathlib.Numerals.{add-one}
use lib.Ieee.{nan}
use lib.ListN.{drop_of_length-le}
use lib.Seq.{drop-cons}
use Rattle.protocol.specs.declared.Event.TheVariants.{Bolus}
use Rattle.cycle.specs.Fold.{stop_of}
use Rattle.fold_stop.proofs.stop_of.Goals as goal

pub loop-event-preserved : goal.loop-event-preserved
unfolding stop_of
loop-event-preserved c =
    rw (add-one, c.stopped_by-stop.ensures)
    (rw (drop-cons _ _ (Bolus nan 0 nan) c.loop-event-test.true) at c.loop-event.invariant)

pub returns : goal.returns
unfolding stop_of
returns c = rw (drop_of_length-le _ c.loop-event-test.false) at c.loop-event.invariant
