-- `periodic_preparation::fold_and_prepare` meets its contract.
use mathlib.Core.Path.{sym, ◌∙◌}
use Rattle.std.proofs.lemmas.Result.{err_from_is_err_and}
use Rattle.periodic_preparation.proofs.Ready.{tolerance-stops, fold-stops, prepared_as}
use Rattle.periodic_preparation.proofs.fold_and_prepare.Goals as goal

pub returns-then-not-tolerance_passes : goal.returns-then-not-tolerance_passes
returns-then-not-tolerance_passes c =
    let g = c.args in
    tolerance-stops g.n g.given.now.window g.given.now.samples.now g.given.now.events.now g.tolerance
    (sym c.tolerance_passes.ensures ∙ c.if-not-tolerance_passes.true)

pub returns-in_err-folded : goal.returns-in_err-folded
returns-in_err-folded c =
    let g = c.args in
    let p = err_from_is_err_and c.from_residual.result c.from_residual.ensures.1 in
    rw (p.1, p.2)
    (fold-stops g.n g.given.now.window g.given.now.samples.now g.given.now.events.now g.tolerance
    (sym c.tolerance_passes.ensures ∙ c.if-not-tolerance_passes.false) c.in_err-folded.ensures.folded)

pub returns : goal.returns
returns c =
    let g = c.args in
    prepared_as g.n g.given.now.window g.given.now.samples.now g.given.now.events.now g.tolerance
    (sym c.tolerance_passes.ensures ∙ c.if-not-tolerance_passes.false) c.in_ok-folded.ensures.folded c.prepared.result
    (rw (c.divided-budgets.ensures, c.deref.ensures.0) at c.prepared.ensures)
