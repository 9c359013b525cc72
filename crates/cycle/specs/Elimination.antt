-- 01, "The closed cycle": Gaussian elimination with partial pivoting and back substitution (G. H. Golub and C. F. Van Loan, Matrix
-- Computations, 4th ed., 2013, 3.4),
-- operation by operation. Rust: `solve`, linear_pk/steady_state.rs. Definitions only, over the size n in use.
use Rattle.std.specs.Prelude.{ℕ, zero, suc, ◌+◌, ◌-◌, Bool, false, not, cond, ◌&&◌, List, [], pos, negsuc, ltb, eqb, get_or, set, replicate, Float}
use Rattle.std.specs.Float.{nan, fin, binary64}
use Rattle.std.specs.Float.Ieee.{sub, mul, div, neg, le}
use Rattle.std.specs.Float.Ieee.Scale.{finite}
use Rattle.binary64.specs.Doubles.{plus_zero, one, magnitude, larger, total_le}
use Rattle.matrix.specs.Matrix.{Matrix, tabulate, table, cell, at, sum_to}
use Rattle.matrix.specs.Exponential.{norm_to}
use Rattle.refusal.specs.Result.{Result, done, and_then, unless}

-- the left side and the right
pub record System : Type 0 where
  pub matrix : Matrix
  pub right : List Float

-- identity minus the columns; off the diagonal, the column negated
unfoldable pub system_cell : List (List Float) → ℕ → ℕ → Float
system_cell cs i j = cond (eqb i j) (sub binary64 one (cell (get_or cs j []) i)) (neg (cell (get_or cs j []) i))

unfoldable pub system_of : ℕ → List (List Float) → List Float → System
unfolding system_cell
system_of n cs b = record { matrix = table n (system_cell cs); right = b }

-- 64·2^−52·max(norm, 1), the norm that of the system as built
unfoldable pub least_pivot : ℕ → Matrix → Float
least_pivot n a = mul binary64 (mul binary64 (fin false 1 (pos 6)) (fin false 1 (negsuc 51))) (larger (norm_to a n n) one)

-- the row of the largest magnitude by total order in column k among the rows k .. k + d, the last among equals
unfoldable pub pivot_to : Matrix → ℕ → ℕ → ℕ
unfolding magnitude total_le
pivot_to a k zero = k
pivot_to a k (suc d) = let p = pivot_to a k d in cond (total_le (magnitude (at a p k)) (magnitude (at a (k + suc d) k))) (k + suc d) p

unfoldable pub pivot_of : ℕ → Matrix → ℕ → ℕ
unfolding pivot_to
pivot_of n a k = pivot_to a k (n - suc k)

-- 33 unless finite and above the least
unfoldable pub pivot_passes : Float → Float → Bool
pivot_passes least x = finite x && not (le (magnitude x) least)

unfoldable pub swapped : {A : Type 0} → A → ℕ → ℕ → List A → List A
swapped z i j xs = set (set xs i (get_or xs j z)) j (get_or xs i z)

unfoldable pub exchanged : ℕ → ℕ → System → System
unfolding swapped
exchanged k p s = record { matrix = swapped [] k p s.matrix; right = swapped nan k p s.right }

-- what row i takes off row k: a(i,k)/a(k,k)
unfoldable pub factor : Matrix → ℕ → ℕ → Float
factor a k i = div binary64 (at a i k) (at a k k)

unfoldable pub reduced_cell : Matrix → ℕ → ℕ → ℕ → Float
unfolding factor
reduced_cell a k i j = cond (ltb k i && ltb k j) (sub binary64 (at a i j) (mul binary64 (factor a k i) (at a k j))) (at a i j)

unfoldable pub reduced_right : System → ℕ → ℕ → Float
unfolding factor
reduced_right s k i = cond (ltb k i) (sub binary64 (cell s.right i) (mul binary64 (factor s.matrix k i) (cell s.right k))) (cell s.right i)

unfoldable pub reduced : ℕ → ℕ → System → System
unfolding reduced_cell reduced_right
reduced n k s = record { matrix = table n (reduced_cell s.matrix k); right = tabulate n (reduced_right s k) }

-- column k
unfoldable pub eliminate_column : ℕ → Float → ℕ → System → Result System
unfolding pivot_of pivot_passes exchanged reduced
eliminate_column n least k s =
    let p = pivot_of n s.matrix k in
    unless (pivot_passes least (at s.matrix p k)) 33 (reduced n k (exchanged k p s))

-- the first k columns
unfoldable pub eliminate_to : ℕ → Float → System → ℕ → Result System
unfolding eliminate_column
eliminate_to n least s zero = done s
eliminate_to n least s (suc k) = and_then (eliminate_to n least s k) (eliminate_column n least k)

-- the products of row i with what is solved behind it, d of them, summed from −0 over rising j
unfoldable pub solved_sum : Matrix → List Float → ℕ → ℕ → Float
unfolding sum_to
solved_sum a x i d = sum_to (λ j. mul binary64 (at a i (suc i + j)) (cell x (suc i + j))) d

-- the last d amounts, from the last on
unfoldable pub solve_to : ℕ → System → ℕ → List Float
unfolding solved_sum
solve_to n s zero = replicate n plus_zero
solve_to n s (suc d) =
    let x = solve_to n s d in
    let i = n - suc d in
    set x i (div binary64 (sub binary64 (cell s.right i) (solved_sum s.matrix x i d)) (at s.matrix i i))

unfoldable pub solve : ℕ → System → Result (List Float)
unfolding eliminate_to solve_to least_pivot
solve n s = and_then (eliminate_to n (least_pivot n s.matrix) s n) (λ t. done (solve_to n t n))
