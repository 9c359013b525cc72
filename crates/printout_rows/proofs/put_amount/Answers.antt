-- `printout_rows::put_amount` meets its contract.
use Rattle.printout_numbers.proofs.Writing.{writes_both}
use Rattle.printout_rows.proofs.put_amount.Goals as goal

pub returns : goal.returns
returns c = writes_both c.put_text.ensures c.put_bits.ensures
