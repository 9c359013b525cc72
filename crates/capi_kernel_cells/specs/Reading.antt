-- How a kernel is laid out as doubles for C: the number of volumes, the depot as 0 or 1, the volumes, then the matrix of rates row by row.
use Rattle.std.specs.Prelude.{Bool, true, false, ◌&&◌, ◌||◌, cond, List, ℕ, zero, suc, ◌+◌, leb, pos, length, Float, Option, Some, None}
use Rattle.std.specs.Float.{binary64}
use Rattle.std.specs.Float.Ieee.{eq, of_int}
use Rattle.limits.specs.Limits.{most_volumes, rate_cells, kernel_cells}
use Rattle.binary64.specs.Doubles.{plus_zero, one}
use Rattle.matrix.specs.Matrix.{cell, tabulate}
use Rattle.linear_pk.specs.LinearPk.{no_kernel}
use Rattle.linear_pk.specs.declared.kernel.LinearPk.{LinearPk}

-- the rates stand behind the volume count, the depot and the volumes
abbrev pub first_rate : ℕ
first_rate = 2 + most_volumes

abbrev pub absorption_of : Bool → Float → Option Float
absorption_of true k = Some k
absorption_of false k = None

-- which of 1 to k a double is; 0 where it is none
unfoldable pub count_to : ℕ → Float → ℕ
count_to zero x = 0
count_to (suc k) x = cond (eq x (of_int binary64 (pos (suc k)))) (suc k) (count_to k x)

-- the number of volumes that a double is
abbrev pub count_at : Float → ℕ
count_at x = count_to most_volumes x

-- the kernel in cells; none where there are too few, or the depot's cell is neither 0 nor 1
unfoldable pub kernel_at : List Float → LinearPk
kernel_at cs =
    cond (leb kernel_cells (length cs) && (eq (cell cs 1) plus_zero || eq (cell cs 1) one))
    (record {
      compartments = count_at (cell cs 0);
      depot = eq (cell cs 1) one;
      volumes = tabulate most_volumes (λ i. cell cs (i + 2));
      matrix = tabulate rate_cells (λ i. cell cs (i + first_rate));
    })
    no_kernel
