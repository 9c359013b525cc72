-- `printout_lines::put_head` meets its contract.
use Rattle.printout_lines.specs.Lines.{head_line}
use Rattle.printout_numbers.proofs.Writing.{writes_both}
use Rattle.printout_lines.proofs.put_head.Goals as goal

pub returns : goal.returns
unfolding head_line
returns c = writes_both (writes_both c.put_text.ensures c.put_decimal.ensures) c.put_text-2.ensures
