-- `events_layout::events_of` meets its contract.
use mathlib.Core.Path.{ap, ◌∙◌}
use native.Mathlib.Omega.{arith}
use lib.ListN.{length}
use Rattle.matrix.specs.Matrix.{tabulate, tabulate_from}
use Rattle.matrix.proofs.Filled.{tabulate-length}
use Rattle.events_layout.proofs.Laws.{tabulate_more, first_of}
use Rattle.events_layout.specs.Layout.{events_of, event_of, event_count}
use Rattle.events_layout.proofs.events_of.Goals as goal

pub loop-i-init : goal.loop-i-init
unfolding tabulate tabulate_from
loop-i-init g c = c.new-list.ensures

pub push-requires : goal.push-requires
push-requires g c =
    let l = ap length c.loop-i.invariant ∙ tabulate-length (event_of (g.W.Words.words c.args.words)) c.loop-i.i in
    (omega arith, omega arith)

pub loop-i-preserved : goal.loop-i-preserved
loop-i-preserved g c =
    c.push.ensures.items ∙ rw (c.loop-i.invariant, c.event_of.ensures, tabulate_more)

pub returns : goal.returns
unfolding events_of
returns g c =
    c.loop-i.invariant
    ∙ first_of (event_of (g.W.Words.words c.args.words)) 192 c.loop-i.i (event_count (g.W.Words.words c.args.words)) (omega arith) (omega arith)
    (λ h. omega arith, λ h. omega arith)
