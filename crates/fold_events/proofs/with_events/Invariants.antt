-- `fold_events::with_events` meets its contract. The invariant: the events that are left, behind the list so far, give the whole answer.
use mathlib.Core.Path.{◌≡◌}
use mathlib.Core.List.{[]}
use Prim.Native.Nat.{◌*◌, ◌≤◌}
use lib.ListN.{length, drop}
use Rattle.cycle.specs.Fold.{with_events}
use Rattle.fold_events.proofs.with_events.Given as goal

abbrev pub invariant-loop-event : goal.invariant-loop-event
invariant-loop-event l =
    (length l.list.items ≤ 3 * l.event-index)
    × (with_events l.given.window l.event-items (drop l.event-index l.event-items) l.list.items
    ≡ with_events l.given.window l.event-items l.event-items [])
