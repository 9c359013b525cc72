-- `printout_cycle::put_field` meets its contract.
use Rattle.printout_numbers.proofs.Writing.{writes_both}
use Rattle.printout_cycle.specs.Lines.{field_text}
use Rattle.printout_cycle.proofs.put_field.Goals as goal

pub returns : goal.returns
unfolding field_text
returns c = writes_both c.put_bits.ensures c.put_text.ensures
