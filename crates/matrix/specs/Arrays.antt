-- What the code's arrays hold: rows of a fixed width, of which a matrix of size m uses the leading part.
-- The width stands here and in the code's `BLOCK` and `STATES`; no definition of a result depends on it.
use Rattle.std.specs.Prelude.{List, [], ◌∷◌, ℕ, zero, suc, ◌≡◌, length, Float}
use Rattle.std.specs.Float.{binary64}
use Rattle.std.specs.Float.Ieee.{add, mul, div}
use Rattle.limits.specs.Limits.{block}
use Rattle.binary64.specs.Doubles.{half}
use Rattle.matrix.specs.Matrix.{Matrix, tabulate, table, cell, at, sum_to}

-- the leading m by m part of an array of arrays
unfoldable pub lead : ℕ → Matrix → Matrix
unfolding table
lead m a = table m (at a)

-- an array that holds the m by m matrix p in its leading part
pub record Holds (m : ℕ) (a : Matrix) (p : Matrix) : Type 0 where
  pub width : length a ≡ block
  pub part : lead m a ≡ p

-- the first m elements, each replaced by what g makes of it and of its place
unfoldable pub updated_from : {A : Type 0} → ℕ → ℕ → (ℕ → A → A) → List A → List A
updated_from i zero g xs = xs
updated_from i (suc m) g [] = []
updated_from i (suc m) g (x ∷ xs) = g i x ∷ updated_from (suc i) m g xs

unfoldable pub updated : {A : Type 0} → ℕ → (ℕ → A → A) → List A → List A
unfolding updated_from
updated m g xs = updated_from 0 m g xs

-- Rows, over the whole width.
unfoldable pub scaled_sum : List Float → Float → List Float → List Float
scaled_sum s x r = tabulate block (λ j. add binary64 (cell s j) (mul binary64 x (cell r j)))

unfoldable pub row_quotient : List Float → Float → List Float
row_quotient r x = tabulate block (λ j. div binary64 (cell r j) x)

unfoldable pub row_sum_of : List Float → List Float → List Float
row_sum_of r t = tabulate block (λ j. add binary64 (cell r j) (cell t j))

unfoldable pub row_half : List Float → List Float
row_half r = tabulate block (λ j. mul binary64 (cell r j) half)

-- a row times a matrix of m rows
unfoldable pub row_times : List Float → Matrix → ℕ → List Float
row_times r b m = tabulate block (λ j. sum_to (λ k. mul binary64 (cell r k) (at b k j)) m)
