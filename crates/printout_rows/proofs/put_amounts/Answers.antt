-- `printout_rows::put_amounts` meets its contract.
use Rattle.printout_rows.specs.Row.{amounts_text}
use Rattle.printout_numbers.proofs.Writing.{writes_both, writes_none}
use Rattle.printout_rows.proofs.RowLengths.{amounts_more}
use Rattle.printout_rows.proofs.put_amounts.Goals as goal

pub loop-x-init : goal.loop-x-init
unfolding amounts_text
loop-x-init c = writes_none _

pub loop-x-preserved : goal.loop-x-preserved
loop-x-preserved c = rw (amounts_more _ _ c.loop-x-test.true) at (writes_both c.loop-x.invariant c.put_amount.ensures)
