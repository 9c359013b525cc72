-- `linear_pk_mammillary::matrix` meets its contract.
use borrow.Author.Rules.{rules}
use Rattle.limits.specs.Limits.{rate_cells}
use Rattle.matrix.proofs.Made.{made}
use Rattle.linear_pk_mammillary.proofs.matrix.Goals as goal

pub returns : goal.returns
returns c = made rate_cells (λ i y q l e. search rules) c.from_fn.ensures.items
