-- `printout_cycle::lines_length` meets its contract.
use borrow.Author.Rules.{rules}
use Rattle.printout_cycle.proofs.lines_length.Goals as goal

pub returns-then-closed : goal.returns-then-closed
returns-then-closed c = rw c.if-closed.true (search rules)

pub returns-else-closed : goal.returns-else-closed
returns-else-closed c = rw c.if-closed.false (search rules)
