-- `linear_pk_mammillary::padded` meets its contract.
use borrow.Author.Rules.{rules}
use Rattle.linear_pk_mammillary.specs.Rates.{padded}
use Rattle.matrix.proofs.Made.{made}
use Rattle.linear_pk_mammillary.proofs.padded.Goals as goal

pub returns : goal.returns
unfolding padded
returns g c = made g.row.N (λ i y q l e. search rules) c.from_fn.ensures.items
