-- The slices that rows are written into, as the cells that they hold. Definitions only.
use Rattle.std.specs.Prelude.{◌≡◌, ℕ, take, Float}
use Rattle.protocol.specs.Execute.{Row}
use Rattle.rows.specs.Written.{Cells, cells}
use Rattle.rows.specs.Sides.{side_of}
use Rattle.rows.specs.declared.Side.{Side}
use Rattle.rows.specs.declared.Progress.{Progress}
use Rattle.rows.specs.declared.Rows.{Rows}

abbrev pub cells_of : Rows → Cells
cells_of r = cells r.times.now r.sides.now r.values.now

-- the slices stay those that the caller lent
abbrev pub SameSlices : Rows → Rows → Type 0
SameSlices r s =
    (s.times.ghost_name ≡ r.times.ghost_name) × (s.sides.ghost_name ≡ r.sides.ghost_name) × (s.values.ghost_name ≡ r.values.ghost_name)

-- the row at t of n amounts of p
abbrev pub row_of : ℕ → Float → Side → Progress → Row
row_of n t side p = record { time = t; side = side_of side; amounts = take n p.amounts }
