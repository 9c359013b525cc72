-- `sheet_events::ordered` meets its contract. The invariant: the sum of the first i events.
use mathlib.Core.Path.{◌≡◌}
use Rattle.matrix.specs.Matrix.{tabulate}
use Rattle.events_layout.specs.Layout.{event_of}
use Rattle.sheet_events.specs.OrderedDoses.{ordered}
use Rattle.sheet_events.proofs.ordered.Given as goal

abbrev pub invariant-loop-i : goal.invariant-loop-i
invariant-loop-i g l = l.sum ≡ ordered (tabulate l.i (event_of (g.W.Words.words l.words)))
