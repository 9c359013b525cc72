-- `fold_events::fold_and_validate` meets its contract.
use borrow.Author.Tests.{lt-leb, le-leb}
use Rattle.std.proofs.lemmas.Result.{err_from_is_err_and}
use Rattle.cycle.specs.Fold.{count_passes, fold}
use Rattle.fold_events.proofs.FoldingLaws.{validated}
use Rattle.fold_events.proofs.fold_and_validate.Goals as goal

pub returns-then-not-cycle_passes : goal.returns-then-not-cycle_passes
unfolding fold
returns-then-not-cycle_passes c = rw (← c.cycle_passes.ensures, c.if-not-cycle_passes.true)

pub returns-then-given : goal.returns-then-given
unfolding fold count_passes
returns-then-given c = rw (← c.cycle_passes.ensures, c.if-not-cycle_passes.false, lt-leb _ _ c.if-given.true)

pub returns-in_err-with_events : goal.returns-in_err-with_events
unfolding fold count_passes
returns-in_err-with_events c =
    let p = err_from_is_err_and c.from_residual.result c.from_residual.ensures.1 in
    rw (
      p.1,
      p.2,
      ← c.cycle_passes.ensures,
      c.if-not-cycle_passes.false,
      le-leb _ _ c.if-given.false,
      ← c.in_err-with_events.ensures,
    )

pub returns : goal.returns
unfolding fold count_passes
returns c =
    let n = c.args.n in
    let g = c.args.given.now in
    let es = c.with_events.new.list.items in
    let v = validated n g.window g.samples.now es c.validate.result es (rw c.deref.ensures.0 at c.validate.ensures) in
    rw (
      ← c.cycle_passes.ensures,
      c.if-not-cycle_passes.false,
      le-leb _ _ c.if-given.false,
      ← c.in_ok-with_events.ensures,
    ) v
