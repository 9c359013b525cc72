-- `linear_pk_propagator::block_cell` meets its contract.
use borrow.Author.Tests.{lt-ltb, le-ltb, eq-eqb, ne_eqb}
use lib.Ieee.{of_bits}
use Rattle.linear_pk_propagator.specs.Propagator.{block_cell}
use Rattle.linear_pk_propagator.proofs.block_cell.Goals as goal

pub returns-then-i-n : goal.returns-then-i-n
unfolding block_cell of_bits
returns-then-i-n c = rw (le-ltb _ _ c.if-i-n.true)

pub returns-then-j-n : goal.returns-then-j-n
unfolding block_cell
returns-then-j-n c = rw (lt-ltb _ _ c.if-i-n.false, lt-ltb _ _ c.if-j-n.true, c.entry.ensures)

pub returns-then-j-n-2 : goal.returns-then-j-n-2
unfolding block_cell of_bits
returns-then-j-n-2 c = rw (lt-ltb _ _ c.if-i-n.false, le-ltb _ _ c.if-j-n.false, eq-eqb _ _ c.if-j-n-2.true)

pub returns-else-j-n-2 : goal.returns-else-j-n-2
unfolding block_cell of_bits
returns-else-j-n-2 c = rw (lt-ltb _ _ c.if-i-n.false, le-ltb _ _ c.if-j-n.false, ne_eqb _ _ c.if-j-n-2.false)
