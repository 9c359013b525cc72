-- `events_layout::events_of` meets its contract. The invariant: the first i events are listed.
use mathlib.Core.Path.{◌≡◌}
use Rattle.matrix.specs.Matrix.{tabulate}
use Rattle.events_layout.specs.Layout.{event_of}
use Rattle.events_layout.proofs.events_of.Given as goal

abbrev pub invariant-loop-i : goal.invariant-loop-i
invariant-loop-i g l = l.list.items ≡ tabulate l.i (event_of (g.W.Words.words l.words))
