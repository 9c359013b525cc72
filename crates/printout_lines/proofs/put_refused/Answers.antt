-- `printout_lines::put_refused` meets its contract.
use Rattle.printout_lines.specs.Lines.{refused_text}
use Rattle.printout_numbers.proofs.Writing.{writes_both}
use Rattle.printout_lines.proofs.put_refused.Goals as goal

pub returns : goal.returns
unfolding refused_text
returns c =
    let first = writes_both c.put_text.ensures c.put_decimal.ensures in
    writes_both (writes_both (writes_both first c.put_text-2.ensures) c.put_bits.ensures) c.put_text-3.ensures
