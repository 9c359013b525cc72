-- The norm of the block: an upper row sums to its magnitudes and 1, a lower row to +0, which leaves a norm as it is.
use mathlib.Core.Path.{◌≡◌, refl, sym, ap, ap₂, ◌∙◌}
use Prim.Native.Nat.{ℕ, zero, suc, ◌+◌, ◌≤◌, ◌<◌}
use native.Mathlib.Nat.{add-zero, add-suc}
use native.Mathlib.Omega.{arith}
use mathlib.Core.Bool.{Bool, true, false, not, cond}
use lib.Dec.{T, eqb}
use lib.Ieee.{Float, binary64, add, fits, is_nan, lt, eq}
use lib.Ieee.Bits.{is_false}
use Rattle.binary64.specs.Doubles.{plus_zero, one, magnitude, total_le, larger}
use Rattle.binary64.proofs.TotalOrder.{total_trans, total_antisym}
use Rattle.matrix.specs.Matrix.{Matrix, at, sum_to}
use Rattle.matrix.specs.Exponential.{row_sum, norm_to}
use Rattle.matrix.proofs.Rows.{sum_cong}
use Rattle.exponential_upper.specs.Upper.{block_at, block_of, upper_norm_to}
use Rattle.exponential_upper.proofs.Zeros.{is_minus_zero, same, zero_unsigned}
use Rattle.exponential_upper.proofs.Sums.{sum_split, sum_fits, sum_zeros, sum_not_minus, only_one}
use Rattle.exponential_upper.proofs.Entries.{unit, unit_on, unit_off, unit_fits, block-at, block_low, block-left, block-right}

-- ---- row sums
unit-magnitude : (b : Bool) → magnitude (unit b) ≡ unit b
unfolding magnitude
unit-magnitude true = refl
unit-magnitude false = refl

upper_row : (n : ℕ) (a : Matrix) (i : ℕ) → i < n → row_sum (block_of n a) (n + n) i ≡ add binary64 (row_sum a n i) one
unfolding row_sum
upper_row n a i I =
    let g : ℕ → Float = λ j. magnitude (block_at n a i j) in
    let e : (k : ℕ) → g (n + k) ≡ unit (eqb k i) = λ k. ap magnitude (block-right n a i k I) ∙ unit-magnitude (eqb k i) in
    sum_cong (n + n) (λ j J. ap magnitude (block-at n a i j (omega arith) J))
    ∙ sum_split g n n
    ∙ only_one (sum_to g n) (sum_fits g n) (λ k. g (n + k)) (λ k. rw (e k) (unit_fits (eqb k i))) i n I
    (λ k K d. rw (e k ∙ unit_off k i d) tt) (ap is_minus_zero (e i ∙ unit_on i))
    ∙ ap₂ (add binary64) (sum_cong n (λ j J. ap magnitude (block-left n a i j I J))) (e i ∙ unit_on i)

zeros_sum : (m : ℕ) → 0 < m → sum_to (λ j. plus_zero) m ≡ plus_zero
zeros_sum m h =
    let w : ℕ → Float = λ j. plus_zero in
    same binary64 (sum_to w m) plus_zero (sum_fits w m) (unit_fits false)
    (zero_unsigned (sum_to w m) (sum_zeros w m (λ k K. tt)) ∙ sym (zero_unsigned plus_zero tt))
    (sum_not_minus w (λ k. unit_fits false) m 0 h refl)

lower_row : (n : ℕ) (a : Matrix) (l : ℕ) → l < n → row_sum (block_of n a) (n + n) (n + l) ≡ plus_zero
unfolding row_sum
lower_row n a l L =
    sum_cong (n + n) (λ j J. ap magnitude (block-at n a (n + l) j (omega arith) J ∙ block_low n a l j) ∙ unit-magnitude false)
    ∙ zeros_sum (n + n) (omega arith)

-- ---- a norm fits, is no NaN, and is not before +0
record AtLeastZero (x : Float) : Type 0 where
  fit : T (fits binary64 x)
  real : T (not (is_nan x))
  order : T (total_le plus_zero x)

larger_at_least_zero : (x y : Float) → AtLeastZero x → T (fits binary64 y) → AtLeastZero (larger x y)
unfolding larger
larger_at_least_zero x y p Y = rw (is_false (is_nan x) p.real) (go (is_nan y) (total_le x y) (λ t. t) (λ t. t))
  where
    go : (b c : Bool) → (T (not b) → T (not (is_nan y))) → (T c → T (total_le x y)) → AtLeastZero (cond b x (cond c y x))
    go true c f g = p
    go false true f g = record { fit = Y; real = f tt; order = total_trans binary64 plus_zero x y (unit_fits false) p.fit Y p.order (g tt) }
    go false false f g = p

larger-zero : (x : Float) → AtLeastZero x → larger x plus_zero ≡ x
unfolding larger
larger-zero x p = rw (is_false (is_nan x) p.real) (go (total_le x plus_zero) (λ t. t))
  where
    go : (b : Bool) → (T b → T (total_le x plus_zero)) → cond b plus_zero x ≡ x
    go true f = total_antisym binary64 plus_zero x (unit_fits false) p.fit p.order (f tt)
    go false f = refl

norm_at_least_zero : (a : Matrix) (m k : ℕ) → AtLeastZero (norm_to a m k)
unfolding norm_to row_sum
norm_at_least_zero a m zero = record { fit = unit_fits false; real = unfold is_nan in tt; order = unfold total_le lt eq is_nan in tt }
norm_at_least_zero a m (suc k) = larger_at_least_zero (norm_to a m k) (row_sum a m k) (norm_at_least_zero a m k) (sum_fits (λ j. magnitude (at a k j)) m)

-- ---- the norm of the upper rows, and of all
upper_norm : (n : ℕ) (a : Matrix) (k : ℕ) → k ≤ n → norm_to (block_of n a) (n + n) k ≡ upper_norm_to a n k
unfolding norm_to upper_norm_to
upper_norm n a zero h = refl
upper_norm n a (suc k) h = ap₂ larger (upper_norm n a k (omega arith)) (upper_row n a k h)

lower_norm : (n : ℕ) (a : Matrix) (k : ℕ) → k ≤ n → norm_to (block_of n a) (n + n) (n + k) ≡ norm_to (block_of n a) (n + n) n
unfolding norm_to
lower_norm n a zero h = rw add-zero
lower_norm n a (suc k) h =
    let x = norm_to (block_of n a) (n + n) (n + k) in
    rw (add-suc, lower_row n a k h) (larger-zero x (norm_at_least_zero (block_of n a) (n + n) (n + k)) ∙ lower_norm n a k (omega arith))

pub block_norm : (n : ℕ) (a : Matrix) → norm_to (block_of n a) (n + n) (n + n) ≡ upper_norm_to a n n
block_norm n a = lower_norm n a n (omega arith) ∙ upper_norm n a n (omega arith)
