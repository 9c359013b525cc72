-- `linear_pk_mammillary::padded_cell` meets its contract.
use borrow.Author.Tests.{lt-ltb, le-ltb}
use lib.Ieee.{of_bits}
use Rattle.linear_pk_mammillary.proofs.padded_cell.Goals as goal

pub returns-then-i-xs : goal.returns-then-i-xs
unfolding of_bits
returns-then-i-xs c = rw (lt-ltb _ _ c.if-i-xs.true)

pub returns-else-i-xs : goal.returns-else-i-xs
unfolding of_bits
returns-else-i-xs c = rw (le-ltb _ _ c.if-i-xs.false)
