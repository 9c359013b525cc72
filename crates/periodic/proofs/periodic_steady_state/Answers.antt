-- `periodic::periodic_steady_state` meets its contract.
use borrow.Author.Tests.{lt-leb, le-leb}
use lib.ListN.{length}
use Rattle.std.proofs.lemmas.Result.{err_from_is_err_and}
use Rattle.limits.specs.Limits.{most_cycle_events, most_samples}
use Rattle.periodic_acceptance.specs.Entry.{steady_room}
use Rattle.periodic_acceptance.proofs.Answered.{refuses, answers_as, limit_stops, kernel-stops, entry_goes}
use Rattle.periodic.proofs.periodic_steady_state.Goals as goal

pub returns-then-events-gt-CYCLE_EVENTS : goal.returns-then-events-gt-CYCLE_EVENTS
returns-then-events-gt-CYCLE_EVENTS c =
    let g = c.args in
    let x = refuses c.from.result g.amounts.now g.residual.now
    (rw c.from.ensures
    (limit_stops g.kernel g.window g.samples.now g.events.now g.tolerance
    (steady_room g.kernel (length g.amounts.now) (length g.residual.now))
    (rw (lt-leb (length g.events.now) most_cycle_events c.if-events-gt-CYCLE_EVENTS.true)))) in record {
      result_value = x.reply;
      amounts_after = x.amounts;
      residual_after = x.residuals;
    }

pub returns-then-samples-gt-SAMPLES : goal.returns-then-samples-gt-SAMPLES
returns-then-samples-gt-SAMPLES c =
    let g = c.args in
    let x = refuses c.from-then-samples-gt-SAMPLES.result g.amounts.now g.residual.now
    (rw c.from-then-samples-gt-SAMPLES.ensures
    (limit_stops g.kernel g.window g.samples.now g.events.now g.tolerance
    (steady_room g.kernel (length g.amounts.now) (length g.residual.now))
    (rw (
      le-leb (length g.events.now) most_cycle_events c.if-events-gt-CYCLE_EVENTS.false,
      lt-leb (length g.samples.now) most_samples c.if-samples-gt-SAMPLES.true,
    )))) in record {
      result_value = x.reply;
      amounts_after = x.amounts;
      residual_after = x.residuals;
    }

pub returns-in_err-check : goal.returns-in_err-check
returns-in_err-check c =
    let g = c.args in
    let p = err_from_is_err_and c.from_residual.result c.from_residual.ensures.1 in
    let x = refuses p.0 g.amounts.now g.residual.now
    (rw p.2
    (kernel-stops g.kernel g.window g.samples.now g.events.now g.tolerance
    (steady_room g.kernel (length g.amounts.now) (length g.residual.now))
    (rw (
      le-leb (length g.events.now) most_cycle_events c.if-events-gt-CYCLE_EVENTS.false,
      le-leb (length g.samples.now) most_samples c.if-samples-gt-SAMPLES.false,
    ))
    c.in_err-check.ensures)) in record {
      result_value = rw p.1 x.reply;
      amounts_after = x.amounts;
      residual_after = x.residuals;
    }

pub returns : goal.returns
returns c =
    let g = c.args in
    let x = answers_as
    (entry_goes g.kernel g.window g.samples.now g.events.now g.tolerance
    (steady_room g.kernel (length g.amounts.now) (length g.residual.now))
    (rw (
      le-leb (length g.events.now) most_cycle_events c.if-events-gt-CYCLE_EVENTS.false,
      le-leb (length g.samples.now) most_samples c.if-samples-gt-SAMPLES.false,
    ))
    c.in_ok-check.ensures)
    c.closed.ensures in record {
      result_value = x.reply;
      amounts_after = x.amounts;
      residual_after = x.residuals;
    }
