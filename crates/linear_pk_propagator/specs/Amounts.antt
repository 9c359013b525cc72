-- 01, "Amounts and concentrations": an exponential applied to amounts and input rates.
use Rattle.std.specs.Prelude.{List, ℕ, ◌+◌, Float}
use Rattle.std.specs.Float.{binary64}
use Rattle.std.specs.Float.Ieee.{add, mul}
use Rattle.matrix.specs.Matrix.{Matrix, cell, at, sum_to}

-- amount i: the sum over j of P(i,j)·amount + P(i,j+n)·(rate·duration), that pair added first
unfoldable pub amount_to : Matrix → ℕ → List Float → List Float → Float → ℕ → ℕ → Float
amount_to p n x r d i k =
    sum_to (λ j. add binary64 (mul binary64 (at p i j) (cell x j)) (mul binary64 (at p i (j + n)) (mul binary64 (cell r j) d))) k
