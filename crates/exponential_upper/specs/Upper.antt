-- The exponential of a block [a 1; 0 0] of n + n rows by its n upper rows, which are all that amounts are read from: two n by n halves.
-- The lower rows are [0 1] from the first term to the last squaring. So a cell of a left half takes n products; one of a right half takes one
-- product in a term, by the 1 as it is halved, and n products and the cell before in a squaring.
-- `exponential` of `matrix/specs/Exponential.antt` stays what is promised: `UpperRows` says that these are its upper rows, to the bit.
use Rattle.std.specs.Prelude.{Bool, ◌&&◌, cond, ℕ, zero, suc, ◌+◌, ◌-◌, ◌^◌, ◌≤◌, ◌≡◌, eqb, ltb, pos, Float}
use Rattle.std.specs.Float.{binary64}
use Rattle.std.specs.Float.Ieee.{add, mul, div, lt, of_int}
use Rattle.binary64.specs.Doubles.{plus_zero, one, half, larger}
use Rattle.matrix.specs.Matrix.{Matrix, at, table, sum_to, plus}
use Rattle.matrix.specs.Exponential.{Scheme, row_sum, halving_count, halved_times, series, all_finite, Exponential, exponential}
use Rattle.refusal.specs.Result.{Result, done, and_then, unless}

-- ---- the block, and the upper rows of a matrix
-- the cells of [a 1; 0 0]
unfoldable pub block_at : ℕ → Matrix → ℕ → ℕ → Float
block_at n a i j = cond (ltb i n) (cond (ltb j n) (at a i j) (cond (eqb (j - n) i) one plus_zero)) plus_zero

unfoldable pub block_of : ℕ → Matrix → Matrix
unfolding block_at
block_of n a = table (n + n) (block_at n a)

pub record Upper : Type 0 where
  pub left : Matrix
  pub right : Matrix

-- the upper rows of a matrix of n + n rows
unfoldable pub upper : ℕ → Matrix → Upper
upper n p = record { left = table n (at p); right = table n (λ i j. at p i (j + n)) }

-- ---- the norm: a row's magnitudes, and then its 1
unfoldable pub upper_norm_to : Matrix → ℕ → ℕ → Float
upper_norm_to a n zero = plus_zero
upper_norm_to a n (suc k) = larger (upper_norm_to a n k) (add binary64 (row_sum a n k) one)

-- ---- the series of a, whose left half is that of n rows
-- 1 halved c times, one halving at a time
unfoldable pub unit_of : ℕ → Float
unit_of zero = one
unit_of (suc c) = mul binary64 (unit_of c) half

-- the right half of term k from the left half of the one before
unfoldable pub right_term : ℕ → Float → ℕ → Matrix → Matrix
right_term n u k t = table n (λ i j. div binary64 (mul binary64 (at t i j) u) (of_int binary64 (pos k)))

unfoldable pub right_sum : ℕ → Matrix → Float → ℕ → Matrix
unfolding right_term
right_sum n a u zero = table n (λ i j. plus_zero)
right_sum n a u (suc k) = plus n (right_sum n a u k) (right_term n u (suc k) (series n a k).term)

-- both halves after k terms
abbrev pub upper_series : ℕ → Matrix → Float → ℕ → Upper
upper_series n a u k = record { left = (series n a k).sum; right = right_sum n a u k }

-- ---- squarings
-- f 0 + f 1 + .. + f (m - 1), from z
unfoldable pub sum_from : Float → (ℕ → Float) → ℕ → Float
sum_from z f zero = z
sum_from z f (suc k) = add binary64 (sum_from z f k) (f k)

-- what the products with the lower left zeros come to: -0 where each entry of the right half has its sign set
unfoldable pub start_of : ℕ → Matrix → ℕ → Float
unfolding sum_to
start_of n r i = cond (lt plus_zero (at r i i)) plus_zero (sum_to (λ k. mul binary64 (at r i k) plus_zero) n)

unfoldable pub squared : ℕ → Upper → Upper
unfolding start_of sum_from
squared n p = record {
  left = table n (λ i j. sum_from (start_of n p.right i) (λ k. mul binary64 (at p.left i k) (at p.left k j)) n);
  right = table n (λ i j. add binary64 (sum_from (start_of n p.right i) (λ k. mul binary64 (at p.left i k) (at p.right k j)) n) (at p.right i j));
}

unfoldable pub squared_times : ℕ → ℕ → Upper → Upper
unfolding squared
squared_times n zero p = p
squared_times n (suc c) p = squared n (squared_times n c p)

-- ---- the exponential
-- halved c times, the series, squared c times
unfoldable pub upper_taylor : Scheme → ℕ → ℕ → Matrix → Upper
unfolding squared_times right_sum unit_of
upper_taylor s n c a = squared_times n c (upper_series n (halved_times n c a) (unit_of c) s.terms)

unfoldable pub upper_finite : ℕ → Upper → Bool
unfolding all_finite
upper_finite n p = all_finite n p.left && all_finite n p.right

-- the upper rows of a block's exponential, and the halvings that it took
pub record UpperExponential : Type 0 where
  pub halved : ℕ
  pub rows : Upper

-- 22 where an entry is not finite
abbrev pub if_finite : ℕ → ℕ → Upper → Result UpperExponential
if_finite n c p = unless (upper_finite n p) 22 (record { halved = c; rows = p })

-- 20, 21, 22 as `exponential` has them
unfoldable pub upper_exponential : Scheme → ℕ → Matrix → Result UpperExponential
unfolding halving_count upper_norm_to upper_taylor upper_finite
upper_exponential s n a =
    and_then (halving_count s.threshold s.most (upper_norm_to a n n))
    (λ c. if_finite n c (upper_taylor s n c a))

-- what is read of an exponential: its upper rows
abbrev pub upper_of : ℕ → Result Exponential → Result UpperExponential
upper_of n r = and_then r (λ e. done (record { halved = e.halved; rows = upper n e.matrix }))

-- ---- the claim, over every scheme whose terms are counted exactly by a double, every size and every matrix, NaN and infinities too
abbrev pub UpperRows : Type 0
UpperRows = (s : Scheme) (n : ℕ) (a : Matrix) → s.terms ≤ 2 ^ 53 → upper_exponential s n a ≡ upper_of n (exponential s (n + n) (block_of n a))
