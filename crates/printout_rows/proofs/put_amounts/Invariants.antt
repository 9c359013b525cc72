-- `printout_rows::put_amounts` meets its contract. The invariant: the amounts so far are written.
use lib.ListN.{take}
use Rattle.printout_rows.specs.Row.{amounts_text}
use Rattle.printout_numbers.specs.Writer.{Writes}
use Rattle.printout_rows.proofs.put_amounts.Given as goal

abbrev pub invariant-loop-x : goal.invariant-loop-x
invariant-loop-x l = Writes (amounts_text (take l.x-index l.amounts)) l.initial.w l.w
