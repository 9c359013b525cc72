use mathlib.Core.Path.{refl, ◌∙◌}
use native.Mathlib.Omega.{arith}
use borrow.Author.Rules.{rules}
use lib.Ieee.{nan}
use lib.ListN.{length, length-append}
use lib.Seq.{length-take-le}
use Rattle.std.proofs.lemmas.Result.{err_from_is_err_and}
use Rattle.std.proofs.lemmas.Slice.Zip.{zip_turn, zip_end}
use Rattle.events_at.proofs.Marking.{marked_exactly}
use Rattle.rows.specs.Standing.{kernel_advance}
use Rattle.simulation_boundaries.proofs.Boundaries.{going_start, end-room, end-ran, here_room, here_stopped, code_room}
use Rattle.simulation_boundaries.proofs.Boundaries.{code_stopped, code_going, marks_none, behind, one_behind, pairs-count}
use Rattle.simulation_boundaries.proofs.over_boundaries.Goals as goal

pub loop-t-init : goal.loop-t-init
loop-t-init c = (
  going_start _ _ _ _ _ _ _ c.requires.1 (marks_none c.args.events.now c.requires.0) c.requires.2,
  length-take-le _ _ c.requires.0,
  (refl, refl, refl),
)

pub at_boundary-requires : goal.at_boundary-requires
at_boundary-requires c =
    let bs = c.args.bounds.now in
    let z = zip_turn bs (behind bs) c.loop-t.yielded c.into_iter-t-iterator.result c.loop-t.t-iterator c.next.new.self c.next.result
    (search rules) (search rules) c.loop-t.yielded_by _ c.in-Some.is (search rules) in
    rw (z.2 nan) (here_room _ _ _ _ _ _ _ _ _ _ _ c.loop-t.invariant.0 (one_behind bs _ z.1).0)

pub returns-in_err-q-clause-ran : goal.returns-in_err-q-clause-ran
returns-in_err-q-clause-ran c =
    let bs = c.args.bounds.now in
    let z = zip_turn bs (behind bs) c.loop-t.yielded c.into_iter-t-iterator.result c.loop-t.t-iterator c.next.new.self c.next.result
    (search rules) (search rules) c.loop-t.yielded_by _ c.in-Some.is (search rules) in
    let e = err_from_is_err_and c.from_residual.result c.from_residual.ensures.1 in
    rw (e.1, e.2) (here_stopped _ _ _ _ _ _ _ _ _ _ _ c.loop-t.invariant.0 (one_behind bs _ z.1).0
    (rw (z.2 nan) at (c.in_err-q.ensures.ran (kernel_advance c.args.kernel c.args.n))))

pub on_interval-requires : goal.on_interval-requires
on_interval-requires c =
    let bs = c.args.bounds.now in
    let z = zip_turn bs (behind bs) c.loop-t.yielded c.into_iter-t-iterator.result c.loop-t.t-iterator c.next.new.self c.next.result
    (search rules) (search rules) c.loop-t.yielded_by _ c.in-Some.is (search rules) in
    let b = one_behind bs _ z.1 in
    rw (z.2 nan, z.3 nan, b.1) (code_room _ _ _ _ _ _ _ _ _ _ _ c.loop-t.invariant.0 b.0
    (rw (z.2 nan) at (c.in_ok-q.ensures.ran (kernel_advance c.args.kernel c.args.n)))
    (rw (z.2 nan) at (marked_exactly _ _ _ c.loop-t.invariant.1 c.mark.ensures)) (rw (z.2 nan) at c.summed_rates-rates.ensures))

pub returns-in_err-p-clause-ran : goal.returns-in_err-p-clause-ran
returns-in_err-p-clause-ran c =
    let bs = c.args.bounds.now in
    let z = zip_turn bs (behind bs) c.loop-t.yielded c.into_iter-t-iterator.result c.loop-t.t-iterator c.next.new.self c.next.result
    (search rules) (search rules) c.loop-t.yielded_by _ c.in-Some.is (search rules) in
    let b = one_behind bs _ z.1 in
    let e = err_from_is_err_and c.from_residual-in_err-p.result c.from_residual-in_err-p.ensures.1 in
    rw (e.1, e.2) (code_stopped _ _ _ _ _ _ _ _ _ _ _ c.loop-t.invariant.0 b.0
    (rw (z.2 nan) at (c.in_ok-q.ensures.ran (kernel_advance c.args.kernel c.args.n)))
    (rw (z.2 nan) at (marked_exactly _ _ _ c.loop-t.invariant.1 c.mark.ensures)) (rw (z.2 nan) at c.summed_rates-rates.ensures)
    (rw (z.2 nan, z.3 nan, b.1) at c.in_err-p.ensures.ran))

pub loop-t-preserved : goal.loop-t-preserved
loop-t-preserved c =
    let bs = c.args.bounds.now in
    let z = zip_turn bs (behind bs) c.loop-t.yielded c.into_iter-t-iterator.result c.loop-t.t-iterator c.next.new.self c.next.result
    (search rules) (search rules) c.loop-t.yielded_by _ c.in-Some.is (search rules) in
    let b = one_behind bs _ z.1 in (
      simp length-append (code_going _ _ _ _ _ _ _ _ _ _ _ c.loop-t.invariant.0 b.0
          (rw (z.2 nan) at (c.in_ok-q.ensures.ran (kernel_advance c.args.kernel c.args.n)))
          (rw (z.2 nan) at (marked_exactly _ _ _ c.loop-t.invariant.1 c.mark.ensures)) (rw (z.2 nan) at c.summed_rates-rates.ensures)
          (rw (z.2 nan, z.3 nan, b.1) at c.in_ok-p.ensures.ran)),
      c.mark.auto.marks ∙ c.loop-t.invariant.1,
      (
        c.in_ok-p.ensures.slices.0 ∙ c.in_ok-q.ensures.slices.0 ∙ c.loop-t.invariant.2.0,
        c.in_ok-p.ensures.slices.1 ∙ c.in_ok-q.ensures.slices.1 ∙ c.loop-t.invariant.2.1,
        c.in_ok-p.ensures.slices.2 ∙ c.in_ok-q.ensures.slices.2 ∙ c.loop-t.invariant.2.2,
      ),
    )

pub at_boundary-requires-2 : goal.at_boundary-requires-2
at_boundary-requires-2 c =
    let bs = c.args.bounds.now in
    let z = zip_end bs (behind bs) c.loop-t.yielded c.into_iter-t-iterator.result c.loop-t.t-iterator c.next.new.self c.next.result
    (search rules) (search rules) c.loop-t.yielded_by c.in-None.is (search rules) in
    let e = pairs-count bs (length c.loop-t.yielded) c.requires.1 z in
    rw e (end-room _ _ _ _ _ _ _ _ _ _ _ c.loop-t.invariant.0 (omega (arith, e)))

pub returns-clause-ran : goal.returns-clause-ran
returns-clause-ran c =
    let bs = c.args.bounds.now in
    let z = zip_end bs (behind bs) c.loop-t.yielded c.into_iter-t-iterator.result c.loop-t.t-iterator c.next.new.self c.next.result
    (search rules) (search rules) c.loop-t.yielded_by c.in-None.is (search rules) in
    let e = pairs-count bs (length c.loop-t.yielded) c.requires.1 z in
    end-ran _ _ _ _ _ _ _ _ _ _ _ c.loop-t.invariant.0 (omega (arith, e)) (rw e at (c.at_boundary-2.ensures.ran (kernel_advance c.args.kernel c.args.n)))
