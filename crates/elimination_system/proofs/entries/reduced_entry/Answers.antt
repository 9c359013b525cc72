-- `elimination_system::entries::reduced_entry` meets its contract.
use borrow.Author.Tests.{lt-ltb, le-ltb}
use Rattle.cycle.specs.Elimination.{reduced_right}
use Rattle.elimination_system.proofs.entries.reduced_entry.Goals as goal

pub returns-then-i-k : goal.returns-then-i-k
unfolding reduced_right
returns-then-i-k c = rw (le-ltb _ _ c.if-i-k.true)

pub returns : goal.returns
unfolding reduced_right
returns c = rw (lt-ltb _ _ c.if-i-k.false, c.factor.ensures)
