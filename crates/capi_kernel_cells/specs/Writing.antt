-- The cells of a kernel one by one. A bound kernel has its amounts behind.
use Rattle.std.specs.Prelude.{cond, ℕ, ◌-◌, eqb, ltb, leb, pos, Float}
use Rattle.std.specs.Float.{binary64}
use Rattle.std.specs.Float.Ieee.{of_int}
use Rattle.limits.specs.Limits.{most_volumes, kernel_cells}
use Rattle.binary64.specs.Doubles.{plus_zero, one}
use Rattle.matrix.specs.Matrix.{cell}
use Rattle.linear_pk.specs.declared.kernel.LinearPk.{LinearPk}
use Rattle.linear_pk.specs.declared.bind.BoundLinearPk.{BoundLinearPk}
use Rattle.capi_kernel_cells.specs.Reading.{first_rate}

-- a number of volumes as a double; +0 where there are none
abbrev pub count_cell : ℕ → Float
count_cell n = cond (leb n most_volumes) (of_int binary64 (pos n)) plus_zero

-- cell i of a kernel
unfoldable pub kernel_cell : LinearPk → ℕ → Float
kernel_cell k i =
    cond (eqb i 0) (count_cell k.compartments)
    (cond (eqb i 1) (cond k.depot one plus_zero) (cond (ltb i first_rate) (cell k.volumes (i - 2)) (cell k.matrix (i - first_rate))))

-- cell i of a bound kernel
unfoldable pub bound_cell : BoundLinearPk → ℕ → Float
bound_cell b i = cond (ltb i kernel_cells) (kernel_cell b.kernel i) (cell b.initial (i - kernel_cells))
