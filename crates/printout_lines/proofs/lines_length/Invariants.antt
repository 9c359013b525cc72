-- `printout_lines::lines_length` meets its contract. The invariant: the length of the lines so far.
use mathlib.Core.Path.{◌≡◌}
use Rattle.printout_rows.specs.Rows.{rows_length}
use Rattle.printout_lines.proofs.lines_length.Given as goal

abbrev pub invariant-loop-side : goal.invariant-loop-side
invariant-loop-side l = l.sum ≡ rows_length l.n l.side-index l.sides
