-- `linear_pk_propagator::block_of` meets its contract.
use borrow.Author.Rules.{rules}
use Rattle.limits.specs.Limits.{block}
use Rattle.matrix.proofs.Made.{made}
use Rattle.linear_pk_propagator.proofs.Blocks.{block_made}
use Rattle.linear_pk_propagator.proofs.block_of.Goals as goal

pub returns : goal.returns
returns c = block_made _ _ _ c.requires (made block (λ i y q l e. search rules) c.from_fn.ensures.items)
