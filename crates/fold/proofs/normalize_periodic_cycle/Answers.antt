-- `fold::normalize_periodic_cycle` meets its contract.
use mathlib.Core.Path.{◌∙◌}
use borrow.Author.Tests.{lt-leb, le-leb}
use Rattle.std.proofs.lemmas.Result.{err_from_is_err_and}
use Rattle.fold.specs.Entry.{fold_entry}
use Rattle.fold.proofs.Tests.{entry_folds}
use Rattle.fold.proofs.normalize_periodic_cycle.Goals as goal

pub returns-then-events-gt-CYCLE_EVENTS-clause-folded : goal.returns-then-events-gt-CYCLE_EVENTS-clause-folded
unfolding fold_entry
returns-then-events-gt-CYCLE_EVENTS-clause-folded c = rw (lt-leb _ _ c.if-events-gt-CYCLE_EVENTS.true)

pub returns-then-samples-gt-SAMPLES-clause-folded : goal.returns-then-samples-gt-SAMPLES-clause-folded
unfolding fold_entry
returns-then-samples-gt-SAMPLES-clause-folded c =
    rw (le-leb _ _ c.if-events-gt-CYCLE_EVENTS.false, lt-leb _ _ c.if-samples-gt-SAMPLES.true)

pub returns-in_err-check-clause-folded : goal.returns-in_err-check-clause-folded
unfolding fold_entry
returns-in_err-check-clause-folded c =
    let p = err_from_is_err_and c.from_residual.result c.from_residual.ensures.1 in
    rw (
      p.1,
      p.2,
      le-leb _ _ c.if-events-gt-CYCLE_EVENTS.false,
      le-leb _ _ c.if-samples-gt-SAMPLES.false,
      ← c.in_err-check.ensures,
    )

pub returns-clause-folded : goal.returns-clause-folded
returns-clause-folded c =
    c.folded.ensures.folded
    ∙ entry_folds _ _ _ _ c.if-events-gt-CYCLE_EVENTS.false c.if-samples-gt-SAMPLES.false c.in_ok-check.ensures c.state_count.ensures.0
