-- `matrix::row::plus_scaled` meets its contract.
use borrow.Author.Rules.{rules}
use Rattle.limits.specs.Limits.{block}
use Rattle.matrix.specs.Arrays.{scaled_sum}
use Rattle.matrix.proofs.Made.{made}
use Rattle.matrix.proofs.row.plus_scaled.Goals as goal

pub returns : goal.returns
unfolding scaled_sum
returns c = made block (λ k y q l e. search rules) c.from_fn.ensures.items
