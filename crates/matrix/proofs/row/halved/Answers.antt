-- `matrix::row::halved` meets its contract.
use borrow.Author.Rules.{rules}
use lib.Ieee.{of_bits}
use Rattle.limits.specs.Limits.{block}
use Rattle.matrix.specs.Arrays.{row_half}
use Rattle.matrix.proofs.Made.{made}
use Rattle.matrix.proofs.row.halved.Goals as goal

pub returns : goal.returns
unfolding row_half of_bits
returns c = made block (λ k y q l e. search rules) c.from_fn.ensures.items
