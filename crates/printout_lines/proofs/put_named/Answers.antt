-- `printout_lines::put_named` meets its contract.
use Rattle.printout_numbers.proofs.Writing.{writes_both}
use Rattle.printout_lines.proofs.put_named.Goals as goal

pub returns : goal.returns
returns c = writes_both (writes_both c.put_text.ensures c.put_bits.ensures) c.put_text-2.ensures
