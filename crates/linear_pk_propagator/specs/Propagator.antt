-- 01, "Amounts and concentrations": the exponential of a duration, for a matrix of rates K;
-- the block [K·t, 1; 0, 0] has the exponential of K·t and its integral in its upper half (C. Van Loan, IEEE Trans. Automat. Contr. 23, 1978).
use Rattle.std.specs.Prelude.{cond, List, ℕ, ◌+◌, ◌-◌, ◌*◌, eqb, ltb, Float}
use Rattle.std.specs.Float.{binary64}
use Rattle.std.specs.Float.Ieee.{mul}
use Rattle.limits.specs.Limits.{states}
use Rattle.binary64.specs.Doubles.{plus_zero, one}
use Rattle.matrix.specs.Matrix.{cell, table}
use Rattle.refusal.specs.Result.{Result}
use Rattle.matrix.specs.Exponential.{Scheme, Exponential, exponential}

-- the rate to state i from state j
abbrev pub entry : List Float → ℕ → ℕ → Float
entry k i j = cell k (i * states + j)

-- the block of a duration, of the rates k of n states: rates times duration upper left, ones at (i, i + n), zeros elsewhere
unfoldable pub block_cell : ℕ → List Float → Float → ℕ → ℕ → Float
block_cell n k d i j = cond (ltb i n) (cond (ltb j n) (mul binary64 (entry k i j) d) (cond (eqb (j - n) i) one plus_zero)) plus_zero

-- the exponential of a duration, apart from the amounts that it is applied to
unfoldable pub propagator : Scheme → ℕ → List Float → Float → Result Exponential
propagator s n k d = exponential s (n + n) (table (n + n) (block_cell n k d))
