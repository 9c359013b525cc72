-- `doses::apply_resets` meets its contract.
use mathlib.Core.Path.{sym, ◌∙◌}
use mathlib.Core.Bool.{true}
use borrow.Author.Rules.{rules}
use Rattle.rows.proofs.Parts.{ran-nothing}
use Rattle.doses.proofs.Chains.{all_pass}
use Rattle.doses.proofs.Listings.{no_resets}
use Rattle.doses.proofs.apply_resets.Goals as goal

pub returns-then-not-has_reset : goal.returns-then-not-has_reset
returns-then-not-has_reset c =
    rw (no_resets c.args.boundary.now.at.t c.args.boundary.now.events.now (sym c.has_reset.ensures ∙ c.if-not-has_reset.true)) (record { ran = λ a w. ran-nothing c.args.start w })

pub returns : goal.returns
returns c =
    rw (all_pass c.as_slice.result.now, c.as_slice.ensures.value, c.resets_at-listed.ensures) at (c.apply_where.ensures (λ e. true) (λ e b s. search rules))
