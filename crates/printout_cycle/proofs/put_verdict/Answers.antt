-- `printout_cycle::put_verdict` meets its contract.
use Rattle.printout_cycle.specs.CyclePrintout.{verdict_line}
use Rattle.printout_cycle.proofs.put_verdict.Goals as goal

pub put_text-requires : goal.put_text-requires
unfolding verdict_line
put_text-requires c = rw c.if-closed.true at c.requires

pub put_text-requires-else-closed : goal.put_text-requires-else-closed
unfolding verdict_line
put_text-requires-else-closed c = rw c.if-closed.false at c.requires

pub returns-then-closed : goal.returns-then-closed
unfolding verdict_line
returns-then-closed c = rw c.if-closed.true c.put_text.ensures

pub returns-else-closed : goal.returns-else-closed
unfolding verdict_line
returns-else-closed c = rw c.if-closed.false c.put_text-else-closed.ensures
