-- `linear_pk_propagator::block_row` meets its contract.
use borrow.Author.Rules.{rules}
use Rattle.limits.specs.Limits.{block}
use Rattle.matrix.proofs.Made.{made}
use Rattle.linear_pk_propagator.proofs.block_row.Goals as goal

pub returns : goal.returns
returns c = made block (λ j y q l e. search rules) c.from_fn.ensures.items
