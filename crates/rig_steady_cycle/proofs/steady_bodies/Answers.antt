-- `rig_steady_cycle::steady_bodies` meets its contract.
use mathlib.Core.Path.{sym, ◌∙◌}
use lib.Seq.{length-take-le}
use Rattle.linear_pk.specs.LinearPk.{state_count}
use Rattle.sheet.specs.Sheet.{words_of}
use Rattle.printout.proofs.Replies.{prints_same}
use Rattle.rig_steady_cycle.specs.SheetCycle.{steady_read}
use Rattle.rig_steady_cycle.proofs.Kept.{steady_kept}
use Rattle.rig_steady_cycle.proofs.Slices.{answer-printout}
use Rattle.rig_steady_cycle.proofs.steady_bodies.Goals as goal

pub slice_bounds-solution-end : goal.slice_bounds-solution-end
slice_bounds-solution-end c = c.state_count-n.ensures.1

pub slice_bounds-change-end : goal.slice_bounds-change-end
slice_bounds-change-end c = c.state_count-n.ensures.1

pub slice_bounds-amounts-end : goal.slice_bounds-amounts-end
slice_bounds-amounts-end c = sym (length-take-le _ _ c.state_count-n.ensures.1)

pub slice_bounds-residual-end : goal.slice_bounds-residual-end
slice_bounds-residual-end c = sym (length-take-le _ _ c.state_count-n.ensures.1)

pub solve_bodies-reply-requires : goal.solve_bodies-reply-requires
solve_bodies-reply-requires c =
    let n = c.state_count-n.ensures in
    (length-take-le _ _ n.1 ∙ n.0, length-take-le _ _ n.1 ∙ n.0)

pub print_reply-requires : goal.print_reply-requires
print_reply-requires c = c.state_count-n.ensures.1

pub returns : goal.returns
returns c =
    let s = c.args.sheet.now in
    let b = s.bodies in
    prints_same (answer-printout (state_count s.kernel) (steady_read s) (steady_kept s.kernel (words_of b.window.now)
    (words_of b.samples.now) (words_of b.events.now) s.sound) c.solve_bodies-reply.ensures c.state_count-n.ensures.0) c.print_reply.ensures
