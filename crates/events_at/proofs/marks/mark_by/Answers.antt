use native.Mathlib.Omega.{arith}
use lib.ListN.{length}
use mathlib.Core.Path.{◌∙◌, ◌≡◌}
use Rattle.events_at.proofs.Marking.{marked_more, marked_all}
use Rattle.events_at.proofs.marks.mark_by.Goals as goal

pub loop-i-preserved : goal.loop-i-preserved
loop-i-preserved c = marked_more _ _ _ _ _ _ c.loop-i-test.true c.requires c.runs.ensures c.loop-i.invariant

pub returns : goal.returns
returns c =
    let e : c.loop-i.i ≡ length c.args.events.now = omega arith in
    c.loop-i.invariant ∙ rw e (marked_all _ _ _ _)
