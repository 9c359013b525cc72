-- A row of `elimination_steps::table::system`.
use borrow.Author.Rules.{rules}
use Rattle.limits.specs.Limits.{states}
use Rattle.matrix.proofs.Made.{made}
use Rattle.elimination_steps.proofs.table.fn.system.from_fn.Goals as goal

pub returns : goal.returns
returns c = made states (λ i y q l e. search rules) c.from_fn.ensures.items
