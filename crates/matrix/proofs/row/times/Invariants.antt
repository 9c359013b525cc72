-- `matrix::row::times` meets its contract. The invariant: as many rows are summed as the loop has taken.
use mathlib.Core.Path.{◌≡◌}
use lib.ListN.{length}
use Rattle.matrix.specs.Arrays.{row_times}
use Rattle.matrix.proofs.row.times.Given as goal

abbrev pub invariant-loop-x : goal.invariant-loop-x
invariant-loop-x l = l.sum ≡ row_times l.row l.b (length l.yielded)
