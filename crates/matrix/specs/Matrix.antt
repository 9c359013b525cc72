-- Square matrices of doubles, as lists of rows. Every definition goes over the size m in use.
-- Each operation is one of IEEE 754-2019 on binary64, rounded once; a sum starts from -0 and goes in index order.
use Rattle.std.specs.Prelude.{Bool, true, ◌&&◌, cond, List, [], ◌∷◌, ℕ, zero, suc, eqb, get_or, Float}
use Rattle.std.specs.Float.{nan, binary64}
use Rattle.std.specs.Float.Ieee.{add, mul, div}
use Rattle.binary64.specs.Doubles.{minus_zero, plus_zero, one, half}

abbrev pub Matrix : Type 0
Matrix = List (List Float)

-- f i, f (i + 1), .., m of them
unfoldable pub tabulate_from : {A : Type 0} → ℕ → ℕ → (ℕ → A) → List A
tabulate_from i zero f = []
tabulate_from i (suc m) f = f i ∷ tabulate_from (suc i) m f

-- f 0, f 1, .., f (m - 1)
unfoldable pub tabulate : {A : Type 0} → ℕ → (ℕ → A) → List A
unfolding tabulate_from
tabulate m f = tabulate_from 0 m f

-- the m by m matrix of entries f i j
unfoldable pub table : ℕ → (ℕ → ℕ → Float) → Matrix
unfolding tabulate
table m f = tabulate m (λ i. tabulate m (f i))

-- entry i of a list
abbrev pub cell : List Float → ℕ → Float
cell v i = get_or v i nan

-- the entry at row i, column j
abbrev pub at : Matrix → ℕ → ℕ → Float
at a i j = cell (get_or a i []) j

-- f 0 + f 1 + .. + f (m - 1), from -0
unfoldable pub sum_to : (ℕ → Float) → ℕ → Float
sum_to f zero = minus_zero
sum_to f (suc k) = add binary64 (sum_to f k) (f k)

-- each of f 0, .., f (m - 1) passes
unfoldable pub all_to : (ℕ → Bool) → ℕ → Bool
all_to f zero = true
all_to f (suc k) = all_to f k && f k

-- the entry of the product a·b at row i, column j
unfoldable pub dot : Matrix → Matrix → ℕ → ℕ → ℕ → Float
unfolding sum_to
dot a b m i j = sum_to (λ k. mul binary64 (at a i k) (at b k j)) m

unfoldable pub product : ℕ → Matrix → Matrix → Matrix
unfolding table dot
product m a b = table m (dot a b m)

unfoldable pub quotient : ℕ → Matrix → Float → Matrix
unfolding table
quotient m a x = table m (λ i j. div binary64 (at a i j) x)

unfoldable pub plus : ℕ → Matrix → Matrix → Matrix
unfolding table
plus m a b = table m (λ i j. add binary64 (at a i j) (at b i j))

unfoldable pub halved : ℕ → Matrix → Matrix
unfolding table
halved m a = table m (λ i j. mul binary64 (at a i j) half)

unfoldable pub identity : ℕ → Matrix
unfolding table
identity m = table m (λ i j. cond (eqb i j) one plus_zero)
