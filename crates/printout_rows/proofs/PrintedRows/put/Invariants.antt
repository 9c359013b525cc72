-- `printout_rows::PrintedRows::put` meets its contract. The invariant: the first k lines are written.
use Rattle.printout_rows.specs.Rows.{row_lines}
use Rattle.printout_numbers.specs.Writer.{Writes}
use Rattle.printout_rows.proofs.PrintedRows.put.Given as goal

abbrev pub invariant-loop-k : goal.invariant-loop-k
invariant-loop-k l = Writes (row_lines l.self.n l.k l.self.times.now l.self.sides.now l.self.values.now) l.initial.w l.w
