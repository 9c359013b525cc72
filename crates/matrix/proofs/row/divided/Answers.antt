-- `matrix::row::divided` meets its contract.
use borrow.Author.Rules.{rules}
use Rattle.limits.specs.Limits.{block}
use Rattle.matrix.specs.Arrays.{row_quotient}
use Rattle.matrix.proofs.Made.{made}
use Rattle.matrix.proofs.row.divided.Goals as goal

pub returns : goal.returns
unfolding row_quotient
returns c = made block (λ k y q l e. search rules) c.from_fn.ensures.items
