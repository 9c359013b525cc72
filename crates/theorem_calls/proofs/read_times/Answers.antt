use mathlib.Core.Path.{refl, sym}
use mathlib.Core.Bool.{true}
use lib.Ieee.{binary64, fits}
use Rattle.binary64.proofs.Folds.{all_more, all_done}
use Rattle.protocol.specs.declared.Event.{Event}
use Rattle.protocol.specs.Events.{time}
use Rattle.theorem_calls.proofs.read_times.Goals as goal

pub loop-event-init : goal.loop-event-init
loop-event-init c = refl

pub loop-event-preserved : goal.loop-event-preserved
loop-event-preserved c =
    all_more (λ (e : Event). fits binary64 (time e)) c.args.events.now _ c.loop-event.event-index true c.loop-event-test.true
    (sym (rw c.time-time.ensures at c.time-time.type_inv)) c.loop-event.invariant

pub returns : goal.returns
returns c =
    rw (← all_done (λ (e : Event). fits binary64 (time e)) c.args.events.now c.loop-event.event-index true c.loop-event-test.false
    c.loop-event.invariant) tt
