-- `printout_steady::state_line` meets its contract.
use Rattle.printout_numbers.proofs.Writing.{writes_both}
use Rattle.printout_steady.specs.SteadyPrintout.{state_line}
use Rattle.printout_steady.proofs.state_line.Goals as goal

pub returns : goal.returns
unfolding state_line
returns c = writes_both (writes_both (writes_both c.put_bits.ensures c.put_text.ensures) c.put_bits-2.ensures) c.put_text-2.ensures
