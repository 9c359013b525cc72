-- The entries of the matrices: of the block and its halvings, of the terms and sums of the series, of squares; and n + n rows or columns by halves.
use mathlib.Core.Path.{◌≡◌, refl, sym, ap, ◌∙◌, subst}
use Prim.Native.Nat.{ℕ, zero, suc, ◌+◌, ◌-◌, ◌≤◌, ◌<◌}
use native.Mathlib.Omega.{arith}
use mathlib.Core.Bool.{Bool, true, false, not, cond}
use mathlib.Core.Logic.{◌⊎◌, ⊎_elim}
use lib.IntN.{pos}
use lib.Dec.{T, ltb, eqb, ltb→lt, lt→ltb, nltb→le, eqb→eq, eqb_refl, not_T}
use lib.Ieee.{Float, binary64, add, mul, div, fits, of_int}
use lib.Ieee.Bits.{is_true, is_false}
use lib.Ieee.Scale.{finite}
use Rattle.binary64.specs.Doubles.{plus_zero, one, half}
use Rattle.matrix.specs.Matrix.{Matrix, at, table, sum_to, dot, product, plus, halved}
use Rattle.matrix.specs.Exponential.{halved_times, series, squarings}
use Rattle.matrix.proofs.Rows.{table_at, table_cong}
use Rattle.exponential_upper.specs.Upper.{Upper, block_at, block_of, unit_of, right_term, right_sum, sum_from, start_of, squared}
use Rattle.exponential_upper.proofs.Rounding.{is_zero}
use Rattle.exponential_upper.proofs.Zeros.{is_minus_zero, zero-times}

-- ---- a range of n + n by halves
pub by_halves : {P : ℕ → Type 0} (n : ℕ) → ((k : ℕ) → k < n → P k) → ((k : ℕ) → k < n → P (n + k)) → (k : ℕ) → k < n + n → P k
by_halves {P} n f g k l = go (ltb k n) (ltb→lt k n) (nltb→le k n)
  where
    past : n ≤ k → (k - n < n) × (n + (k - n) ≡ k)
    past h = (omega arith, omega arith)

    go : (b : Bool) → (T b → k < n) → (T (not b) → n ≤ k) → P k
    go true p q = f k (p tt)
    go false p q = let w = past (q tt) in subst P w.1 (g (k - n) w.0)

-- ---- entries of the identity
abbrev pub unit : Bool → Float
unit b = cond b one plus_zero

pub unit_on : (i : ℕ) → unit (eqb i i) ≡ one
unit_on i = rw (is_true (eqb i i) (eqb_refl i))

pub unit_off : (i j : ℕ) → (i ≡ j → ⊥) → unit (eqb i j) ≡ plus_zero
unit_off i j h = rw (is_false (eqb i j) (not_T (eqb i j) (λ t. h (eqb→eq i j t))))

pub unit_fits : (b : Bool) → T (fits binary64 (unit b))
unfolding fits
unit_fits true = tt
unit_fits false = tt

pub unit_finite : (b : Bool) → T (finite (unit b))
unit_finite true = tt
unit_finite false = tt

pub unit_not_minus : (b : Bool) → is_minus_zero (unit b) ≡ false
unit_not_minus true = refl
unit_not_minus false = refl

-- ---- the block
module _ (n : ℕ) (a : Matrix) where
  pub block-at : (i j : ℕ) → i < n + n → j < n + n → at (block_of n a) i j ≡ block_at n a i j
  unfolding block_of
  block-at i j I J = table_at (block_at n a) (n + n) i j I J

  inside : (k : ℕ) → k < n → ltb k n ≡ true
  inside k h = is_true (ltb k n) (lt→ltb k n h)

  past : (k : ℕ) → ltb (n + k) n ≡ false
  past k = is_false (ltb (n + k) n) (not_T (ltb (n + k) n) (λ t. no (ltb→lt (n + k) n t)))
    where
      no : n + k < n → ⊥
      no h = omega arith

  pub block-left : (i j : ℕ) → i < n → j < n → block_at n a i j ≡ at a i j
  unfolding block_at
  block-left i j I J = rw (inside i I, inside j J)

  pub block-right : (i j : ℕ) → i < n → block_at n a i (n + j) ≡ unit (eqb j i)
  unfolding block_at
  block-right i j I = let e : n + j - n ≡ j = omega arith in rw (inside i I, past j, e)

  pub block_low : (l j : ℕ) → block_at n a (n + l) j ≡ plus_zero
  unfolding block_at
  block_low l j = rw (past l)

-- A of n + n rows is [B u; 0 0], with u on a diagonal, but for the signs of zeros
pub record Block (n : ℕ) (A B : Matrix) (u : Float) : Type 0 where
  pub left : (i j : ℕ) → i < n → j < n → at A i j ≡ at B i j
  pub diagonal : (j : ℕ) → j < n → at A j (n + j) ≡ u
  pub off : (i j : ℕ) → i < n → j < n → (i ≡ j → ⊥) → T (is_zero (at A i (n + j)))
  pub low : (l j : ℕ) → l < n → j < n + n → T (is_zero (at A (n + l) j))

halved-at : (m : ℕ) (a : Matrix) (i j : ℕ) → i < m → j < m → at (halved m a) i j ≡ mul binary64 (at a i j) half
unfolding halved
halved-at m a i j I J = table_at (λ i j. mul binary64 (at a i j) half) m i j I J

pub halved-block : (n : ℕ) (a : Matrix) (c : ℕ) → Block n (halved_times (n + n) c (block_of n a)) (halved_times n c a) (unit_of c)
unfolding halved_times unit_of
halved-block n a zero = record {
  left = λ i j I J. block-at n a i j (omega arith) (omega arith) ∙ block-left n a i j I J;
  diagonal = λ j J. block-at n a j (n + j) (omega arith) (omega arith) ∙ block-right n a j j J ∙ unit_on j;
  off = λ i j I J d. rw (block-at n a i (n + j) (omega arith) (omega arith), block-right n a i j I, unit_off j i (λ e. d (sym e))) tt;
  low = λ l j L J. rw (block-at n a (n + l) j (omega arith) J, block_low n a l j) tt;
}
halved-block n a (suc c) =
    let A = halved_times (n + n) c (block_of n a) in
    let B = halved_times n c a in
    let b = halved-block n a c in
    record {
      left = λ i j I J.
          halved-at (n + n) A i j (omega arith) (omega arith) ∙ ap (λ (x : Float). mul binary64 x half) (b.left i j I J) ∙ sym (halved-at n B i j I J);
      diagonal = λ j J. halved-at (n + n) A j (n + j) (omega arith) (omega arith) ∙ ap (λ (x : Float). mul binary64 x half) (b.diagonal j J);
      off = λ i j I J d. rw (halved-at (n + n) A i (n + j) (omega arith) (omega arith)) (zero-times binary64 (at A i (n + j)) half (b.off i j I J d) tt);
      low = λ l j L J. rw (halved-at (n + n) A (n + l) j (omega arith) J) (zero-times binary64 (at A (n + l) j) half (b.low l j L J) tt);
    }

-- ---- the series, and squarings
module _ (m : ℕ) (a : Matrix) (i j : ℕ) (I : i < m) (J : j < m) where
  pub term_first : at (series m a 0).term i j ≡ unit (eqb i j)
  unfolding series
  term_first = table_at (λ i j. unit (eqb i j)) m i j I J

  pub term-next : (k : ℕ) → at (series m a (suc k)).term i j
      ≡ div binary64 (sum_to (λ l. mul binary64 (at (series m a k).term i l) (at a l j)) m) (of_int binary64 (pos (suc k)))
  unfolding series
  term-next k =
      let t = (series m a k).term in
      table_at (λ i j. div binary64 (at (product m t a) i j) (of_int binary64 (pos (suc k)))) m i j I J
      ∙ ap (λ (x : Float). div binary64 x (of_int binary64 (pos (suc k)))) (table_at (dot t a m) m i j I J)

  pub sum_first : at (series m a 0).sum i j ≡ unit (eqb i j)
  unfolding series
  sum_first = table_at (λ i j. unit (eqb i j)) m i j I J

  pub sum-next : (k : ℕ) → at (series m a (suc k)).sum i j ≡ add binary64 (at (series m a k).sum i j) (at (series m a (suc k)).term i j)
  unfolding series
  sum-next k = table_at (λ i j. add binary64 (at (series m a k).sum i j) (at (series m a (suc k)).term i j)) m i j I J

  pub square_at : (c : ℕ) → at (squarings m (suc c) a) i j ≡ sum_to (λ k. mul binary64 (at (squarings m c a) i k) (at (squarings m c a) k j)) m
  unfolding squarings
  square_at c = table_at (dot (squarings m c a) (squarings m c a) m) m i j I J

-- ---- the right half of the series
-- of term k; that of the first is 0
abbrev pub right_entry : ℕ → Matrix → Float → ℕ → ℕ → ℕ → Float
right_entry n a u zero i j = plus_zero
right_entry n a u (suc k) i j = div binary64 (mul binary64 (at (series n a k).term i j) u) (of_int binary64 (pos (suc k)))

module _ (n : ℕ) (a : Matrix) (u : Float) (i j : ℕ) (I : i < n) (J : j < n) where
  pub right_first : at (right_sum n a u 0) i j ≡ plus_zero
  unfolding right_sum
  right_first = table_at (λ i j. plus_zero) n i j I J

  pub right-next : (k : ℕ) → at (right_sum n a u (suc k)) i j ≡ add binary64 (at (right_sum n a u k) i j) (right_entry n a u (suc k) i j)
  unfolding right_sum plus right_term
  right-next k =
      table_at (λ i j. add binary64 (at (right_sum n a u k) i j) (at (right_term n u (suc k) (series n a k).term) i j)) n i j I J
      ∙ ap (add binary64 (at (right_sum n a u k) i j)) (table_at (right_entry n a u (suc k)) n i j I J)

-- ---- a squaring of upper rows
-- a sum of products with row i of the left half
abbrev pub row_product : ℕ → Upper → ℕ → (ℕ → Float) → Float
row_product n q i f = sum_from (start_of n q.right i) (λ k. mul binary64 (at q.left i k) (f k)) n

module _ (n : ℕ) (q : Upper) (i j : ℕ) (I : i < n) (J : j < n) where
  pub squared-left : at (squared n q).left i j ≡ row_product n q i (λ k. at q.left k j)
  unfolding squared
  squared-left = table_at (λ i j. row_product n q i (λ k. at q.left k j)) n i j I J

  pub squared-right : at (squared n q).right i j ≡ add binary64 (row_product n q i (λ k. at q.right k j)) (at q.right i j)
  unfolding squared
  squared-right = table_at (λ i j. add binary64 (row_product n q i (λ k. at q.right k j)) (at q.right i j)) n i j I J

-- ---- a table is the table of its entries
pub table_self : (n : ℕ) (f : ℕ → ℕ → Float) → table n (at (table n f)) ≡ table n f
table_self n f = table_cong n (λ i j I J. table_at f n i j I J)

-- ---- what is said of a matrix p of n + n rows and of two halves q
abbrev pub FiniteRows : ℕ → Matrix → Type 0
FiniteRows n p = (i j : ℕ) → i < n → j < n + n → T (finite (at p i j))

abbrev pub FiniteHalves : ℕ → Upper → Type 0
FiniteHalves n q = (i j : ℕ) → i < n → j < n → T (finite (at q.left i j)) × T (finite (at q.right i j))

-- the upper rows of p are q
pub record Agree (n : ℕ) (p : Matrix) (q : Upper) : Type 0 where
  pub left : (i j : ℕ) → i < n → j < n → at p i j ≡ at q.left i j
  pub right : (i j : ℕ) → i < n → j < n → at p i (n + j) ≡ at q.right i j

-- the lower rows of p are [0 1]
abbrev pub LowerUnit : ℕ → Matrix → Type 0
LowerUnit n p = (l j : ℕ) → l < n → j < n + n → at p (n + l) j ≡ unit (eqb (n + l) j)

pub finite_rows : (n : ℕ) (p : Matrix) (q : Upper) → Agree n p q → FiniteRows n p ⊎ FiniteHalves n q → FiniteRows n p
finite_rows n p q w e =
    ⊎_elim (λ h. h)
    (λ h i j I J. by_halves {P = λ j. T (finite (at p i j))} n (λ j J. rw (w.left i j I J) (h i j I J).0)
    (λ j J. rw (w.right i j I J) (h i j I J).1) j J) e
