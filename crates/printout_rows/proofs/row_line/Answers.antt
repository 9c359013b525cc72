-- `printout_rows::row_line` meets its contract.
use Rattle.printout_rows.specs.Row.{row_line}
use Rattle.printout_numbers.proofs.Writing.{writes_both}
use Rattle.printout_rows.proofs.row_line.Goals as goal

pub returns : goal.returns
unfolding row_line
returns c =
    let first = writes_both c.put_bits.ensures c.put_text.ensures in
    writes_both (writes_both (writes_both first c.put_side.ensures) c.put_amounts.ensures)
    c.put_text-2.ensures
