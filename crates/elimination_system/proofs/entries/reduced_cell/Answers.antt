-- `elimination_system::entries::reduced_cell` meets its contract.
use borrow.Author.Tests.{lt-ltb, le-ltb}
use Rattle.cycle.specs.Elimination.{reduced_cell}
use Rattle.elimination_system.proofs.entries.reduced_cell.Goals as goal

pub returns-then-i-k : goal.returns-then-i-k
unfolding reduced_cell
returns-then-i-k c = rw (le-ltb _ _ c.if-i-k.true) c.at.ensures

pub returns-then-j-k : goal.returns-then-j-k
unfolding reduced_cell
returns-then-j-k c = rw (lt-ltb _ _ c.if-i-k.false, le-ltb _ _ c.if-j-k.true) c.at-then-j-k.ensures

pub returns : goal.returns
unfolding reduced_cell
returns c = rw (lt-ltb _ _ c.if-i-k.false, lt-ltb _ _ c.if-j-k.false, c.at-2.ensures, c.factor.ensures, c.at-3.ensures)
