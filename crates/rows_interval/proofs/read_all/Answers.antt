use mathlib.Core.Path.{refl, ◌∙◌}
use Rattle.std.proofs.lemmas.Result.{err_from_is_err_and}
use Rattle.rows_interval.proofs.Readings.{through_none, through_early, through_late, through_fits, through_stops, through_more}
use Rattle.rows_interval.proofs.read_all.Goals as goal
use Rattle.rows_interval.proofs.read_all.Goals.{then-leg-s+then-s-u+in_ok-p, then-leg-s+else-s-u, else-leg-s}

pub loop-s-init : goal.loop-s-init
loop-s-init c = (through_none c.args.start, (refl, refl, refl))

pub read-requires : goal.read-requires
read-requires c = through_fits c.loop-s.invariant.0 c.loop-s-test.true c.if-leg-s.true c.if-s-u.true c.requires

pub returns-in_err-p-clause-ran : goal.returns-in_err-p-clause-ran
returns-in_err-p-clause-ran c =
    let e = err_from_is_err_and c.from_residual.result c.from_residual.ensures.1 in
    rw (e.1, e.2) (through_stops c.loop-s.invariant.0 c.loop-s-test.true c.if-leg-s.true c.if-s-u.true c.in_err-p.ensures.ran)

pub loop-s-preserved : goal.loop-s-preserved
loop-s-preserved c =
    let h = c.loop-s.invariant.0 in
    let k = c.loop-s-test.true in
    elim c.if-leg-s.branch [
      | then-leg-s+then-s-u+in_ok-p w ↦
          let s = w.in_ok-p.ensures.slices in
          let i = c.loop-s.invariant.1 in
          rw (w.rows-is, w.p-is)
          (through_more h k w.if-leg-s.true w.if-s-u.true w.in_ok-p.ensures.ran, (s.0 ∙ i.0, s.1 ∙ i.1, s.2 ∙ i.2))
      | then-leg-s+else-s-u w ↦ rw (w.rows-is, w.p-is) (through_late h k w.if-leg-s.true w.if-s-u.false, c.loop-s.invariant.1)
      | else-leg-s w ↦ rw (w.rows-is, w.p-is) (through_early h k w.if-leg-s.false, c.loop-s.invariant.1)
    ]
