-- `elimination_system::entries::system_cell` meets its contract.
use borrow.Author.Tests.{eq-eqb, ne_eqb}
use lib.Ieee.{of_bits}
use Rattle.cycle.specs.Elimination.{system_cell}
use Rattle.elimination_system.proofs.entries.system_cell.Goals as goal

pub returns-then-i-j : goal.returns-then-i-j
unfolding system_cell of_bits
returns-then-i-j c = rw (eq-eqb _ _ c.if-i-j.true, c.at.ensures)

pub returns-else-i-j : goal.returns-else-i-j
unfolding system_cell
returns-else-i-j c = rw (ne_eqb _ _ c.if-i-j.false, c.at-else-i-j.ensures)
