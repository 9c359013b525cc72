-- `capi_run::simulate_words` meets its contract.
use mathlib.Core.Path.{refl, sym, ap, ◌∙◌}
use lib.ListN.{length}
use Rattle.std.specs.Prelude.{Err}
use Rattle.simulation_report.specs.Replies.{room, run_reply}
use Rattle.capi_run.proofs.Words.{unfit, listed, words-entry, many}
use Rattle.capi_run.proofs.simulate_words.Goals as goal

pub returns-then-not-events_fit : goal.returns-then-not-events_fit
returns-then-not-events_fit c =
    let g = c.args in rw (unfit g.kernel g.amounts.now g.window g.events.now g.samples.now
    (room (length g.times.now) (length g.sides.now) (length g.values.now))
    (sym c.events_fit.ensures ∙ c.if-not-events_fit.true)) (record {
      result_value = ap (λ e. run_reply (Err e)) c.into.ensures;
      times_after = refl;
      sides_after = refl;
      values_after = refl;
    })

pub returns-then-events-gt-EVENTS : goal.returns-then-events-gt-EVENTS
returns-then-events-gt-EVENTS c =
    let g = c.args in rw (many g.kernel g.amounts.now g.window g.events.now g.samples.now
    (room (length g.times.now) (length g.sides.now) (length g.values.now))
    (sym c.events_fit.ensures ∙ c.if-not-events_fit.false) c.if-events-gt-EVENTS.true) (record {
      result_value = ap (λ e. run_reply (Err e)) c.into-then-events-gt-EVENTS.ensures;
      times_after = refl;
      sides_after = refl;
      values_after = refl;
    })

pub returns : goal.returns
returns c =
    let g = c.args in
    let l = listed g.events.now c.if-events-gt-EVENTS.false (c.as_slice.ensures.value ∙ c.events_of-list.ensures) in
    rw (words-entry g.kernel g.amounts.now g.window g.events.now g.samples.now
    (room (length g.times.now) (length g.sides.now) (length g.values.now)) (sym c.events_fit.ensures ∙ c.if-not-events_fit.false)) (record {
      result_value = rw l at c.simulate.ensures.result_value;
      times_after = rw l at c.simulate.ensures.times_after;
      sides_after = rw l at c.simulate.ensures.sides_after;
      values_after = rw l at c.simulate.ensures.values_after;
    })
