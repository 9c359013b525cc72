-- `events_at::marks::mark_by` meets its contract. The invariant: the marks of the first i events are done.
use mathlib.Core.Path.{◌≡◌}
use Rattle.events_at.proofs.Marking.{marked_front}
use Rattle.events_at.proofs.marks.mark_by.Given as goal

abbrev pub invariant-loop-i : goal.invariant-loop-i
invariant-loop-i l = l.marks ≡ marked_front l.t l.target l.i l.events l.initial.marks
