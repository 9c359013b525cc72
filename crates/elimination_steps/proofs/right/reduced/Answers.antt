-- `elimination_steps::right::reduced` meets its contract.
use borrow.Author.Rules.{rules}
use Rattle.limits.specs.Limits.{states}
use Rattle.matrix.proofs.Made.{made}
use Rattle.elimination_steps.proofs.right.reduced.Goals as goal

pub returns : goal.returns
returns c = made states (λ i y q l e. search rules) c.from_fn.ensures.items
