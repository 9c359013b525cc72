-- `printout_cycle::cycle_line` meets its contract.
use Rattle.printout_numbers.proofs.Writing.{writes_both}
use Rattle.printout_cycle.specs.Lines.{cycle_line}
use Rattle.printout_cycle.proofs.cycle_line.Goals as goal

pub returns : goal.returns
unfolding cycle_line
returns c =
    let first = writes_both c.put_field.ensures c.put_field-2.ensures in
    rw (← c.scaled.ensures) (writes_both (writes_both (writes_both first c.put_field-3.ensures) c.put_bits.ensures) c.put_text.ensures)
