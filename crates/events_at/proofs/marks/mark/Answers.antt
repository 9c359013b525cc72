use mathlib.Core.Path.{sym, ◌≡◌, ◌∙◌}
use native.Mathlib.Omega.{arith}
use lib.ListN.{length}
use Rattle.events_at.proofs.Marking.{behind-start, behind_skip, behind_more, behind-all}
use Rattle.events_at.proofs.marks.mark.Goals as goal
use Rattle.events_at.proofs.marks.mark.Goals.{then-stops_at, else-stops_at}

pub loop-event-init : goal.loop-event-init
loop-event-init c = behind-start c.args.t c.args.events.now c.args.marks.now

pub loop-event-preserved : goal.loop-event-preserved
loop-event-preserved c =
    let g = c.args in
    let l = c.loop-event in
    elim c.if-stops_at.branch [
      | then-stops_at w ↦ behind_more g.t g.events.now g.marks.now l.event-index w.target.result _ c.loop-event-test.true (sym c.stops_at.ensures ∙ w.if-stops_at.true)
          w.target.ensures l.invariant (w.marks-is ∙ w.mark_by.ensures)
      | else-stops_at w ↦ behind_skip g.t g.events.now g.marks.now l.event-index _ c.loop-event-test.true (sym c.stops_at.ensures ∙ w.if-stops_at.false) (w.marks-is ∙ l.invariant)
    ]

pub returns : goal.returns
returns c =
    let e : c.loop-event.event-index ≡ length c.args.events.now = omega arith in
    behind-all c.args.t c.args.events.now c.args.marks.now (c.loop-event.invariant ∙ rw e)
