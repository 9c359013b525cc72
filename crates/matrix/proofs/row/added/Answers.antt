-- `matrix::row::added` meets its contract.
use borrow.Author.Rules.{rules}
use Rattle.limits.specs.Limits.{block}
use Rattle.matrix.specs.Arrays.{row_sum_of}
use Rattle.matrix.proofs.Made.{made}
use Rattle.matrix.proofs.row.added.Goals as goal

pub returns : goal.returns
unfolding row_sum_of
returns c = made block (λ k y q l e. search rules) c.from_fn.ensures.items
