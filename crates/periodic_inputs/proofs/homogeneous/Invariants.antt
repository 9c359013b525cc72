-- `periodic_inputs::homogeneous` meets its contract. The invariant: what is left, zeroed, behind the list so far is the whole.
use mathlib.Core.Path.{◌≡◌}
use mathlib.Core.List.{◌++◌}
use lib.ListN.{length, drop}
use Rattle.cycle.specs.Closed.{homogeneous}
use Rattle.periodic_inputs.proofs.homogeneous.Given as goal

abbrev pub invariant-loop-event : goal.invariant-loop-event
invariant-loop-event l =
    (length l.list.items ≡ l.event-index) × (l.list.items ++ homogeneous (drop l.event-index l.events) ≡ homogeneous l.events)
