-- `fold_stop::stop_of` meets its contract. The invariant: what the events that are left make of the stop is the whole answer.
use mathlib.Core.Path.{◌≡◌}
use lib.ListN.{drop}
use Rattle.cycle.specs.Fold.{stop_of}
use Rattle.fold_stop.proofs.stop_of.Given as goal

abbrev pub invariant-loop-event : goal.invariant-loop-event
invariant-loop-event l = stop_of l.period l.time l.target l.stop (drop l.event-index l.events) ≡ stop_of l.period l.time l.target l.until l.events
