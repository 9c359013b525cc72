-- `simulation::simulate` meets its contract.
use mathlib.Core.Path.{◌≡◌, refl, sym, ◌∙◌}
use borrow.Author.Rules.{rules}
use mathlib.Core.Bool.{false, ◌&&◌}
use lib.Dec.{leb}
use Rattle.limits.specs.Limits.{most_events, most_samples}
use borrow.Author.Tests.{lt-leb, le-leb}
use lib.ListN.{length}
use Rattle.linear_pk.specs.LinearPk.{state_count}
use Rattle.protocol.specs.Prepare.{reckoned}
use Rattle.simulation_report.specs.Replies.{room}
use Rattle.std.proofs.lemmas.Result.{err_from_is_err_and}
use Rattle.refusal.specs.declared.Refusal.TheVariants as R
use Rattle.simulation.proofs.Ahead.{refuses, over-limit, bind-refused, bind_takes, code_passes, code_refuses, code_runs}
use Rattle.simulation.proofs.simulate.Goals as goal
use Rattle.simulation.proofs.simulate.Goals.{then-events-gt-EVENTS-via-then-events-gt-EVENTS, then-events-gt-EVENTS-via-else-events-gt-EVENTS+then-samples-gt-SAMPLES}

pub returns-then-events-gt-EVENTS : goal.returns-then-events-gt-EVENTS
returns-then-events-gt-EVENTS c =
    let g = c.args in
    let o : leb (length g.events.now) most_events && leb (length g.samples.now) most_samples ≡ false =
    elim c.then-events-gt-EVENTS.branch [
      | then-events-gt-EVENTS-via-then-events-gt-EVENTS v ↦ rw (lt-leb _ _ v.if-events-gt-EVENTS.true)
      | then-events-gt-EVENTS-via-else-events-gt-EVENTS+then-samples-gt-SAMPLES v ↦
          rw (le-leb _ _ v.if-events-gt-EVENTS.false, lt-leb _ _ v.if-samples-gt-SAMPLES.true)
    ] in
    let w = refuses (R.Limit) (reckoned g.samples.now g.events.now) (state_count g.kernel) g.times.now g.sides.now
    g.values.now (over-limit g.kernel g.amounts.now g.window g.events.now g.samples.now
    (room (length g.times.now) (length g.sides.now) (length g.values.now)) o) in record { result_value = w.0; times_after = w.1.0; sides_after = w.1.1.0; values_after = w.1.1.1 }

pub run_prepared-requires : goal.run_prepared-requires
run_prepared-requires c =
    let g = c.args in
    let t = bind_takes g.kernel g.amounts.now c.in_ok-start.ensures in
    let q = c.state_count.ensures in
    code_passes g.kernel g.amounts.now g.window g.events.now g.samples.now
    (room (length g.times.now) (length g.sides.now) (length g.values.now)) (le-leb _ _ c.if-events-gt-EVENTS.false)
    (le-leb _ _ c.if-samples-gt-SAMPLES.false) t q.0 refl c.in_ok-admitted.ensures refl q.1

pub returns-in_err-start : goal.returns-in_err-start
returns-in_err-start c =
    let g = c.args in
    let e = err_from_is_err_and c.from_residual.result c.from_residual.ensures.1 in
    let w = refuses c.in_err-start.field-0.0 (reckoned g.samples.now g.events.now) (state_count g.kernel)
    g.times.now g.sides.now g.values.now (bind-refused g.kernel g.amounts.now g.window g.events.now
    g.samples.now (room (length g.times.now) (length g.sides.now) (length g.values.now))
    (le-leb _ _ c.if-events-gt-EVENTS.false) (le-leb _ _ c.if-samples-gt-SAMPLES.false) _ (sym c.in_err-start.ensures)) in
    rw (e.1, e.2) (record { result_value = w.0; times_after = w.1.0; sides_after = w.1.1.0; values_after = w.1.1.1 })

pub returns-in_err-admitted : goal.returns-in_err-admitted
returns-in_err-admitted c =
    let g = c.args in
    let t = bind_takes g.kernel g.amounts.now c.in_ok-start.ensures in
    let e = err_from_is_err_and c.from_residual-in_err-admitted.result c.from_residual-in_err-admitted.ensures.1 in
    let w = refuses c.in_err-admitted.field-0.0 (reckoned g.samples.now g.events.now) (state_count g.kernel)
    g.times.now g.sides.now g.values.now (code_refuses g.kernel g.amounts.now g.window g.events.now
    g.samples.now (room (length g.times.now) (length g.sides.now) (length g.values.now))
    (le-leb _ _ c.if-events-gt-EVENTS.false) (le-leb _ _ c.if-samples-gt-SAMPLES.false) t c.state_count.ensures.0
    refl c.in_err-admitted.ensures c.in_err-admitted.field-0.0 refl) in
    rw (e.1, e.2) (record { result_value = w.0; times_after = w.1.0; sides_after = w.1.1.0; values_after = w.1.1.1 })

pub returns : goal.returns
returns c =
    let g = c.args in
    let t = bind_takes g.kernel g.amounts.now c.in_ok-start.ensures in
    let q = c.state_count.ensures in
    let r = c.run_prepared.ensures in
    let w = code_runs g.kernel g.amounts.now g.window g.events.now g.samples.now
    (room (length g.times.now) (length g.sides.now) (length g.values.now)) (le-leb _ _ c.if-events-gt-EVENTS.false)
    (le-leb _ _ c.if-samples-gt-SAMPLES.false) t q.0 refl c.in_ok-admitted.ensures refl q.1 g.times.now g.sides.now g.values.now
    (r.result_value, (r.times_after, (r.sides_after, r.values_after))) in
    record { result_value = w.0; times_after = search rules ∙ w.1.0; sides_after = search rules ∙ w.1.1.0; values_after = search rules ∙ w.1.1.1 }
