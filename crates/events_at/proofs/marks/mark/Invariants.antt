-- `events_at::marks::mark` meets its contract. The invariant: the marks behind the first events.
use mathlib.Core.Path.{◌≡◌}
use Rattle.events_at.proofs.Marking.{behind}
use Rattle.events_at.proofs.marks.mark.Given as goal

abbrev pub invariant-loop-event : goal.invariant-loop-event
invariant-loop-event l = l.marks ≡ behind l.t l.events l.initial.marks l.event-index
