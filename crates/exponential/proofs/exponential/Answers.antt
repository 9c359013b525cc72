-- `exponential::exponential` meets its contract.
use mathlib.Core.Path.{sym, ap, ◌∙◌}
use lib.Ieee.{of_bits}
use Rattle.std.proofs.lemmas.Result.{err_from_is_err_and}
use Rattle.matrix.specs.Exponential.{scheme}
use Rattle.refusal.specs.Numbers.{outcome_of}
use Rattle.matrix.proofs.Cases.{exponential-refused, exponential-at}
use Rattle.exponential.proofs.exponential.Goals as goal

pub returns-in_err-halvings : goal.returns-in_err-halvings
unfolding of_bits
returns-in_err-halvings c =
    let p = err_from_is_err_and c.from_residual.result c.from_residual.ensures.1 in
    rw (p.1, p.2) (sym (exponential-refused scheme _ _ c.norm.ensures (sym c.in_err-halvings.ensures)))

pub returns-then-not-all_finite : goal.returns-then-not-all_finite
unfolding of_bits
returns-then-not-all_finite c =
    rw (
      exponential-at scheme _ _ c.norm.ensures (sym c.count_halvings.ensures ∙ ap outcome_of c.in_ok-halvings.was)
          c.taylor.ensures c.all_finite.ensures,
      c.if-not-all_finite.true,
    )

pub returns : goal.returns
unfolding of_bits
returns c =
    rw (
      exponential-at scheme _ _ c.norm.ensures (sym c.count_halvings.ensures ∙ ap outcome_of c.in_ok-halvings.was)
          c.taylor.ensures c.all_finite.ensures,
      c.if-not-all_finite.false,
    )
