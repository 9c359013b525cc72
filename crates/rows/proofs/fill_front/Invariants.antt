-- `rows::fill_front` meets its contract. The invariant: the first cells are filled.
use mathlib.Core.Path.{◌≡◌}
use mathlib.Core.List.{◌++◌}
use lib.ListN.{replicate, drop}
use Rattle.rows.proofs.fill_front.Given as goal

abbrev pub invariant-loop-cell : goal.invariant-loop-cell
invariant-loop-cell g l = l.cell-items ≡ replicate l.cell-index l.value ++ drop l.cell-index l.initial.cell-items
