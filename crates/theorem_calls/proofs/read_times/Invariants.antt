-- The times that are left to read give the whole.
use mathlib.Core.Path.{◌≡◌}
use lib.ListN.{drop}
use lib.Ieee.{binary64, fits}
use Rattle.binary64.specs.Lists.{all}
use Rattle.protocol.specs.declared.Event.{Event}
use Rattle.protocol.specs.Events.{time}
use Rattle.theorem_calls.proofs.read_times.Given as goal

abbrev pub invariant-loop-event : goal.invariant-loop-event
invariant-loop-event l = all (λ (e : Event). fits binary64 (time e)) (drop l.event-index l.events) ≡ all (λ (e : Event). fits binary64 (time e)) l.events
