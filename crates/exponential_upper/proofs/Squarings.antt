-- Squarings of [E F; 0 1] by its upper rows. Where they end finite, with all n + n rows or by two halves, they end the same, and the lower rows
-- are [0 1] again.
use mathlib.Core.Path.{◌≡◌, refl, sym, ap, ap₂, ◌∙◌}
use Prim.Native.Nat.{ℕ, zero, suc, ◌+◌, ◌<◌}
use native.Mathlib.Omega.{arith}
use mathlib.Core.Bool.{Bool, true, false, cond}
use mathlib.Core.Logic.{◌⊎◌, inl, inr, ⊎_elim}
use lib.Dec.{T, eqb}
use lib.Ieee.{Float, binary64, add, mul, lt, fits}
use lib.Ieee.Fits.{mul-fits}
use lib.Ieee.Scale.{finite}
use Rattle.binary64.specs.Doubles.{plus_zero, one}
use Rattle.matrix.specs.Matrix.{Matrix, at, sum_to}
use Rattle.matrix.specs.Exponential.{squarings}
use Rattle.matrix.proofs.Rows.{sum_cong}
use Rattle.exponential_upper.specs.Upper.{Upper, sum_from, start_of, squared, squared_times}
use Rattle.exponential_upper.proofs.Rounding.{is_zero}
use Rattle.exponential_upper.proofs.Zeros.{is_minus_zero, same, zero_unsigned, zero-times, times_zero, times-one, minus_times, positive-times}
use Rattle.exponential_upper.proofs.Signs.{zero-add-same}
use Rattle.exponential_upper.proofs.Finite.{finite_add, finite_mul}
use Rattle.exponential_upper.proofs.Sums.{sum_split, sum_fits, sum_zeros, sum_not_minus, sum_finite, from_cong, from_finite}
use Rattle.exponential_upper.proofs.Sums.{only_one, zeros_first, zeros_first_but_one}
use Rattle.exponential_upper.proofs.Entries.{unit, unit_on, unit_off, unit_fits, unit_finite, unit_not_minus}
use Rattle.exponential_upper.proofs.Entries.{square_at, row_product, squared-left, squared-right}
use Rattle.exponential_upper.proofs.Entries.{FiniteRows, FiniteHalves, Agree, LowerUnit, finite_rows}

-- ---- what a row's sums start from
-- a positive entry times +0 is +0, and one +0 among zeros makes their sum +0
start_is : (n : ℕ) (r : Matrix) (i : ℕ) → i < n → ((k : ℕ) → k < n → T (finite (at r i k)))
    → start_of n r i ≡ sum_to (λ k. mul binary64 (at r i k) plus_zero) n
unfolding start_of
start_is n r i I F = go (lt plus_zero (at r i i)) (λ t. t)
  where
    w : ℕ → Float
    w k = mul binary64 (at r i k) plus_zero

    go : (b : Bool) → (T b → T (lt plus_zero (at r i i))) → cond b plus_zero (sum_to w n) ≡ sum_to w n
    go false h = refl
    go true h =
        same binary64 plus_zero (sum_to w n) (unfold fits in tt) (sum_fits w n)
        (zero_unsigned plus_zero tt ∙ sym (zero_unsigned (sum_to w n) (sum_zeros w n (λ k K. times_zero binary64 (at r i k) plus_zero (F k K) tt))))
        (sym (sum_not_minus w (λ k. mul-fits binary64 (at r i k) plus_zero) n i I (ap is_minus_zero (positive-times binary64 (at r i i) (F i I) (h tt)))))

-- ---- one squaring
module _ (n : ℕ) (p : Matrix) (P : (i j : ℕ) → i < n + n → j < n + n → T (fits binary64 (at p i j))) (lower : LowerUnit n p) (F : FiniteRows n p) where
  -- what is summed for entry (i, j)
  abbrev summand : ℕ → ℕ → ℕ → Float
  summand i j k = mul binary64 (at p i k) (at p k j)

  summand_fits : (i j k : ℕ) → T (fits binary64 (summand i j k))
  summand_fits i j k = mul-fits binary64 (at p i k) (at p k j)

  -- row i's products with the zeros of the lower rows
  abbrev zero_summand : ℕ → ℕ → Float
  zero_summand i k = mul binary64 (at p i (n + k)) plus_zero

  zero_fits : (i k : ℕ) → T (fits binary64 (zero_summand i k))
  zero_fits i k = mul-fits binary64 (at p i (n + k)) plus_zero

  zero_is : (i : ℕ) → i < n → (k : ℕ) → k < n → T (is_zero (zero_summand i k))
  zero_is i I k K = times_zero binary64 (at p i (n + k)) plus_zero (F i (n + k) I (omega arith)) tt

  lower_on : (l : ℕ) → l < n → at p (n + l) (n + l) ≡ one
  lower_on l L = lower l (n + l) L (omega arith) ∙ unit_on (n + l)

  lower_off : (l j : ℕ) → l < n → j < n + n → (n + l ≡ j → ⊥) → at p (n + l) j ≡ plus_zero
  lower_off l j L J d = lower l j L J ∙ unit_off (n + l) j d

  square_left : (i j : ℕ) → i < n → j < n → sum_to (summand i j) (n + n) ≡ sum_from (sum_to (zero_summand i) n) (summand i j) n
  square_left i j I J =
      sum_split (summand i j) n n
      ∙ from_cong n refl (λ k K. ap (mul binary64 (at p i (n + k))) (lower_off k j K (omega arith) (λ e. omega arith)))
      ∙ zeros_first (summand i j) (zero_summand i) (summand_fits i j) (zero_fits i) n (zero_is i I)

  square_right : (i j : ℕ) → i < n → j < n
      → sum_to (summand i (n + j)) (n + n) ≡ add binary64 (sum_from (sum_to (zero_summand i) n) (summand i (n + j)) n) (at p i (n + j))
  square_right i j I J =
      let g = summand i (n + j) in
      let single : g (n + j) ≡ at p i (n + j) = ap (mul binary64 (at p i (n + j))) (lower_on j J)
      ∙ times-one binary64 (at p i (n + j)) (P i (n + j) (omega arith) (omega arith)) in
      sum_split g n n
      ∙ zeros_first_but_one g (zero_summand i) (summand_fits i (n + j)) (zero_fits i) n (zero_is i I)
      (λ k. g (n + k)) (λ k. summand_fits i (n + j) (n + k)) j J
      (λ k K d. ap (mul binary64 (at p i (n + k))) (lower_off k (n + j) K (omega arith) (λ e. d (omega arith))))
      (λ t. minus_times binary64 (at p i (n + j)) (rw single at t))
      ∙ ap (add binary64 (sum_from (sum_to (zero_summand i) n) g n)) single

  one-times : (b : Bool) → mul binary64 one (unit b) ≡ unit b
  one-times true = times-one binary64 one (unit_fits true)
  one-times false = positive-times binary64 one tt (unfold lt in tt)

  square_lower : (l j : ℕ) → l < n → j < n + n → sum_to (summand (n + l) j) (n + n) ≡ unit (eqb (n + l) j)
  square_lower l j L J =
      let u = unit (eqb (n + l) j) in
      let g = summand (n + l) j in
      let single : g (n + l) ≡ u = ap₂ (mul binary64) (lower_on l L) (lower l j L J) ∙ one-times (eqb (n + l) j) in
      sum_split g n n
      ∙ only_one (sum_to g n) (sum_fits g n) (λ k. g (n + k)) (λ k. summand_fits (n + l) j (n + k)) l n L
      (λ k K d. rw (lower_off l (n + k) L (omega arith) (λ e. d (omega arith)))
      (zero-times binary64 plus_zero (at p (n + k) j) tt (rw (lower k j K J) (unit_finite (eqb (n + k) j)))))
      (ap is_minus_zero single ∙ unit_not_minus (eqb (n + l) j))
      ∙ ap (add binary64 (sum_to g n)) single
      ∙ zero-add-same binary64 (sum_to g n) u (sum_fits g n) (unit_fits (eqb (n + l) j))
      (sum_zeros g n (λ k K. rw (lower_off l k L (omega arith) (λ e. omega arith)) (zero-times binary64 plus_zero (at p k j) tt (F k j K J))))
      (unit_not_minus (eqb (n + l) j))

  -- the same by the halves q
  module _ (q : Upper) (w : Agree n p q) (i j : ℕ) (I : i < n) (J : j < n) where
    start : sum_to (zero_summand i) n ≡ start_of n q.right i
    start =
        sum_cong n (λ k K. ap (λ (x : Float). mul binary64 x plus_zero) (w.right i k I K))
        ∙ sym (start_is n q.right i I (λ k K. rw (w.right i k I K) at (F i (n + k) I (omega arith))))

    row_same : (f g : ℕ → Float) → ((k : ℕ) → k < n → f k ≡ g k)
        → sum_from (sum_to (zero_summand i) n) (λ k. mul binary64 (at p i k) (f k)) n ≡ row_product n q i g
    row_same f g e = from_cong n start (λ k K. ap₂ (mul binary64) (w.left i k I K) (e k K))

    halves_left : sum_to (summand i j) (n + n) ≡ at (squared n q).left i j
    halves_left = square_left i j I J ∙ row_same (λ k. at p k j) (λ k. at q.left k j) (λ k K. w.left k j K J) ∙ sym (squared-left n q i j I J)

    halves_right : sum_to (summand i (n + j)) (n + n) ≡ at (squared n q).right i j
    halves_right =
        square_right i j I J
        ∙ ap₂ (add binary64) (row_same (λ k. at p k (n + j)) (λ k. at q.right k j) (λ k K. w.right k j K J)) (w.right i j I J)
        ∙ sym (squared-right n q i j I J)

-- ---- what is finite after a squaring was finite before it
rows_before : (n : ℕ) (p : Matrix) (c : ℕ) → FiniteRows n (squarings (n + n) (suc c) p) → FiniteRows n (squarings (n + n) c p)
rows_before n p c h i j I J =
    let s = squarings (n + n) c p in
    (finite_mul binary64 (at s i j) (at s j j)
    (sum_finite (λ k. mul binary64 (at s i k) (at s k j)) (n + n) j (rw (square_at (n + n) p i j (omega arith) J c) at (h i j I J)) J)).0

halves_before : (n : ℕ) (q : Upper) → FiniteHalves n (squared n q) → FiniteHalves n q
halves_before n q h i j I J =
    let g : ℕ → Float = λ k. mul binary64 (at q.left i k) (at q.right k j) in
    let w = finite_add binary64 (sum_from (start_of n q.right i) g n) (at q.right i j) (rw (squared-right n q i j I J) at (h i j I J).1) in
    ((finite_mul binary64 (at q.left i j) (at q.right j j) (from_finite (start_of n q.right i) g n j w.0 J)).0, w.1)

-- ---- c squarings
module _ (n : ℕ) (p : Matrix) (q : Upper) (P : (i j : ℕ) → i < n + n → j < n + n → T (fits binary64 (at p i j)))
    (first : FiniteRows n p ⊎ FiniteHalves n q → Agree n p q × LowerUnit n p) where
  squares_fit : (c i j : ℕ) → i < n + n → j < n + n → T (fits binary64 (at (squarings (n + n) c p) i j))
  squares_fit zero i j I J = unfold squarings in P i j I J
  squares_fit (suc c) i j I J =
      let s = squarings (n + n) c p in
      rw (square_at (n + n) p i j I J c) (sum_fits (λ k. mul binary64 (at s i k) (at s k j)) (n + n))

  pub squarings_agree : (c : ℕ) → FiniteRows n (squarings (n + n) c p) ⊎ FiniteHalves n (squared_times n c q)
      → Agree n (squarings (n + n) c p) (squared_times n c q) × LowerUnit n (squarings (n + n) c p)
  unfolding squarings squared_times
  squarings_agree zero e = first e
  squarings_agree (suc c) e =
      let s = squarings (n + n) c p in
      let r = squared_times n c q in
      let before : FiniteRows n s ⊎ FiniteHalves n r = ⊎_elim (λ h. inl (rows_before n p c h)) (λ h. inr (halves_before n r h)) e in
      let w = squarings_agree c before in
      let F = finite_rows n s r w.0 before in (
        record {
          left = λ i j I J. square_at (n + n) p i j (omega arith) (omega arith) c ∙ halves_left n s (squares_fit c) w.1 F r w.0 i j I J;
          right = λ i j I J. square_at (n + n) p i (n + j) (omega arith) (omega arith) c ∙ halves_right n s (squares_fit c) w.1 F r w.0 i j I J;
        },
        λ l j L J. square_at (n + n) p (n + l) j (omega arith) J c ∙ square_lower n s (squares_fit c) w.1 F l j L J,
      )
