-- `sheet_events::ordered` meets its contract.
use mathlib.Core.Path.{refl, ap, ◌∙◌}
use native.Mathlib.Omega.{arith}
use native.Mathlib.Nat.{le_antisymm}
use lib.Ieee.{of_bits}
use Rattle.binary64.specs.Doubles.{plus_zero}
use Rattle.matrix.specs.Matrix.{tabulate, tabulate_from}
use Rattle.events_layout.specs.Layout.{event_of, events_of}
use Rattle.events_layout.proofs.Laws.{tabulate_more}
use Rattle.sheet_events.specs.OrderedDoses.{ordered_from, ordered}
use Rattle.sheet_events.proofs.Sums.{ordered_more}
use Rattle.sheet_events.proofs.ordered.Goals as goal

pub loop-i-init : goal.loop-i-init
unfolding tabulate tabulate_from ordered_from of_bits
loop-i-init g c = refl

pub loop-i-preserved : goal.loop-i-preserved
loop-i-preserved g c =
    let l = c.loop-i in
    let f = event_of (g.W.Words.words c.args.words) in
    c.plus_dose-sum.ensures ∙ rw (l.invariant, c.event_of.ensures, tabulate_more f l.i, ordered_more plus_zero (tabulate l.i f) (f l.i))

pub returns : goal.returns
unfolding events_of
returns g c =
    let ws = g.W.Words.words c.args.words in
    c.loop-i.invariant ∙ ap (λ j. ordered (tabulate j (event_of ws))) (le_antisymm (omega arith) (omega arith))
