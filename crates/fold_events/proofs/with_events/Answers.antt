-- `fold_events::with_events` meets its contract.
use native.Mathlib.Numerals.{add-one}
use native.Mathlib.Omega.{arith}
use lib.Ieee.{nan}
use lib.ListN.{drop_of_length-le}
use lib.Seq.{drop-cons}
use Rattle.std.proofs.lemmas.Result.{err_from_is_err_and}
use Rattle.protocol.specs.declared.Event.TheVariants.{Bolus}
use Rattle.cycle.specs.Fold.{with_events}
use Rattle.fold_events.proofs.with_events.Goals as goal

pub returns-in_err-with_event : goal.returns-in_err-with_event
unfolding with_events
returns-in_err-with_event c =
    let p = err_from_is_err_and c.from_residual.result c.from_residual.ensures.1 in
    rw (p.1, p.2)
    (rw (drop-cons _ _ (Bolus nan 0 nan) c.loop-event-test.true, ← c.in_err-with_event.ensures.folded) at
    c.loop-event.invariant.1)

pub loop-event-preserved : goal.loop-event-preserved
unfolding with_events
loop-event-preserved c = (
  omega (arith, c.in_ok-with_event.ensures.room),
  rw add-one (rw (drop-cons _ _ (Bolus nan 0 nan) c.loop-event-test.true, ← c.in_ok-with_event.ensures.folded) at
      c.loop-event.invariant.1),
)

pub returns : goal.returns
unfolding with_events
returns c = rw (drop_of_length-le _ c.loop-event-test.false) at c.loop-event.invariant.1
