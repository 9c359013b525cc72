-- `events_boundaries::lay` meets its contract. The invariant: what is laid, with the times of the events that are left, are all the times.
use mathlib.Core.Path.{◌≡◌}
use Prim.Native.Nat.{◌≤◌, ◌+◌, ◌*◌}
use lib.ListN.{take}
use Rattle.protocol.specs.Events.{boundary_times}
use Rattle.events_boundaries.proofs.Laying.{laid}
use Rattle.events_boundaries.proofs.lay.Given as goal

abbrev pub invariant-loop-event : goal.invariant-loop-event
invariant-loop-event l =
    (l.n ≤ 2 + 2 * l.event-index)
    × (laid l.events (take l.n l.bounds) l.event-index ≡ boundary_times l.fn.window.start l.fn.window.end l.events)
