-- `printout_rows::put_side` meets its contract.
use borrow.Author.Tests.{eq-eqb, ne_eqb}
use Rattle.printout_rows.specs.Row.{side_text}
use Rattle.printout_rows.proofs.put_side.Goals as goal
use Rattle.printout_rows.proofs.put_side.Goals.{then-side-eq1, else-side-eq1}

pub returns : goal.returns
unfolding side_text
returns c = elim c.if-side-eq1.branch [
  | then-side-eq1 w ↦ rw (eq-eqb _ _ w.if-side-eq1.true) (rw w.put_text-is at c.put_text.ensures)
  | else-side-eq1 w ↦ rw (ne_eqb _ _ w.if-side-eq1.false) (rw w.put_text-is at c.put_text.ensures)
]
