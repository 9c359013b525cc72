-- The series of a block [B u; 0 0] by its upper rows. Where the sums are finite, with all n + n rows or by two halves, they are the same, and
-- the lower rows are [0 1]. The terms are the same up to the sign of a zero.
use mathlib.Core.Path.{◌≡◌, sym, ap, ◌∙◌, subst}
use Prim.Native.Nat.{ℕ, zero, suc, ◌+◌, ◌^◌, ◌≤◌, ◌<◌}
use native.Mathlib.Nat.{lt_irrefl, mul-pos, zero-lt-suc, zero-mul, eq-or-lt_of_le, le_of_suc-le-suc, not-suc-le-zero}
use native.Mathlib.Omega.{arith}
use mathlib.Core.Bool.{Bool, false, ◌&&◌}
use mathlib.Core.Logic.{◌⊎◌, inl, inr, ⊎_elim}
use lib.IntN.{pos}
use lib.Dec.{T, eqb}
use lib.Ieee.{Float, nan, inf, fin, binary64, round, add, mul, fits, of_int}
use lib.Ieee.Fits.{down_pos, add-fits, mul-fits, div-fits}
use lib.Ieee.Back.{round_whole}
use lib.Ieee.Exact.{HasValue}
use lib.Ieee.Scale.{finite}
use Rattle.binary64.specs.Doubles.{minus_zero}
use Rattle.matrix.specs.Matrix.{Matrix, at, sum_to}
use Rattle.matrix.specs.Exponential.{series}
use Rattle.exponential_upper.specs.Upper.{Upper, right_sum}
use Rattle.exponential_upper.proofs.Rounding.{is_zero}
use Rattle.exponential_upper.proofs.Zeros.{is_minus_zero, unsigned, nonzero, zero_finite, unsigned_finite, add-zero-left}
use Rattle.exponential_upper.proofs.Zeros.{zero-times, times_zero, mul_alike, zero-over, div_alike}
use Rattle.exponential_upper.proofs.Signs.{add_minus, add_same, add-zero-same}
use Rattle.exponential_upper.proofs.Finite.{finite_add, finite_mul, finite_div}
use Rattle.exponential_upper.proofs.Sums.{sum_from_lem, sum_split, minus_fits, sum_fits, sum_finite, sum_alike, from_zeros, from_one, sum_zeros}
use Rattle.exponential_upper.proofs.Entries.{by_halves, unit_off, unit_fits, unit_finite, unit_not_minus, Block}
use Rattle.exponential_upper.proofs.Entries.{term_first, term-next, sum_first, sum-next, right_entry, right_first, right-next}
use Rattle.exponential_upper.proofs.Entries.{FiniteRows, FiniteHalves, Agree, LowerUnit}

-- ---- a divisor is not 0
value_nonzero : (x : Float) (s : Bool) (a : ℕ) → HasValue x s (suc a) 1 → T (nonzero x)
value_nonzero nan s a v = absurd v
value_nonzero (inf t) s a v = absurd v
value_nonzero (fin t zero e) s a v =
    absurd (lt_irrefl 0 (subst (λ (x : ℕ). 0 < x) (sym v.1 ∙ simp zero-mul) (mul-pos (zero-lt-suc a) (down_pos e))))
value_nonzero (fin t (suc m) e) s a v = tt

divisor : (k : ℕ) → suc k ≤ 2 ^ 53 → T (nonzero (of_int binary64 (pos (suc k))))
unfolding of_int
divisor k h = value_nonzero (round binary64 false (suc k) 1) false k (round_whole binary64 false (suc k) h)

-- ---- each term and sum fits, and no sum is -0
module _ (m : ℕ) (a : Matrix) (i j : ℕ) (I : i < m) (J : j < m) where
  first_finite : T (finite (at (series m a 0).term i j))
  first_finite = rw (term_first m a i j I J) (unit_finite (eqb i j))

  term_fits : (k : ℕ) → T (fits binary64 (at (series m a (suc k)).term i j))
  term_fits k =
      rw (term-next m a i j I J k)
      (div-fits binary64 (sum_to (λ l. mul binary64 (at (series m a k).term i l) (at a l j)) m) (of_int binary64 (pos (suc k))))

  pub partial_fits : (k : ℕ) → T (fits binary64 (at (series m a k).sum i j))
  partial_fits zero = rw (sum_first m a i j I J) (unit_fits (eqb i j))
  partial_fits (suc k) = rw (sum-next m a i j I J k) (add-fits binary64 (at (series m a k).sum i j) (at (series m a (suc k)).term i j))

  partial_not_minus : (k : ℕ) → is_minus_zero (at (series m a k).sum i j) ≡ false
  partial_not_minus zero = ap is_minus_zero (sum_first m a i j I J) ∙ unit_not_minus (eqb i j)
  partial_not_minus (suc k) =
      let s = at (series m a k).sum i j in
      let t = at (series m a (suc k)).term i j in
      ap is_minus_zero (sum-next m a i j I J k) ∙ add_minus binary64 s t (partial_fits k) (term_fits k)
      ∙ ap (λ (b : Bool). b && is_minus_zero t) (partial_not_minus k)

  -- so the sign of a term that is a zero does not count
  sum_next_alike : (k : ℕ) {s : Float} (t : Float) → T (fits binary64 t) → at (series m a k).sum i j ≡ s
      → unsigned (at (series m a (suc k)).term i j) ≡ unsigned t → at (series m a (suc k)).sum i j ≡ add binary64 s t
  sum_next_alike k t h e d =
      sum-next m a i j I J k
      ∙ add_same binary64 (at (series m a k).sum i j) (at (series m a (suc k)).term i j) t (partial_fits k) (term_fits k) h (partial_not_minus k) d
      ∙ ap (λ (x : Float). add binary64 x t) e

-- a partial sum s is finite only where each term t so far is
terms_finite : (s t : ℕ → Float) → ((k : ℕ) → s (suc k) ≡ add binary64 (s k) (t (suc k))) → T (finite (t 0)) → (K : ℕ) → T (finite (s K))
    → (k : ℕ) → k ≤ K → T (finite (t k))
terms_finite s t e z K h zero l = z
terms_finite s t e z zero h (suc k) l = absurd (not-suc-le-zero l)
terms_finite s t e z (suc K) h (suc k) l =
    let w = finite_add binary64 (s K) (t (suc K)) (rw (e K) at h) in
    ⊎_elim (λ d. rw d w.1) (λ p. terms_finite s t e z K w.0 (suc k) (le_of_suc-le-suc p)) (eq-or-lt_of_le l)

-- ---- the terms
-- term k has the entries of the halves, up to the sign of a zero
record Alike (n : ℕ) (A B : Matrix) (u : Float) (k : ℕ) : Type 0 where
  left : (i j : ℕ) → i < n → j < n → unsigned (at (series (n + n) A k).term i j) ≡ unsigned (at (series n B k).term i j)
  right : (i j : ℕ) → i < n → j < n → unsigned (at (series (n + n) A k).term i (n + j)) ≡ unsigned (right_entry n B u k i j)

-- the sums by halves
abbrev pub halves_of : ℕ → Matrix → Float → ℕ → Upper
halves_of n B u k = record { left = (series n B k).sum; right = right_sum n B u k }

module _ (n : ℕ) (A B : Matrix) (u : Float) (block : Block n A B u) where
  abbrev block_term : ℕ → ℕ → ℕ → Float
  block_term k i j = at (series (n + n) A k).term i j

  abbrev left_term : ℕ → ℕ → ℕ → Float
  left_term k i j = at (series n B k).term i j

  -- what is summed for entry (i, j) of term k + 1
  abbrev summand : ℕ → ℕ → ℕ → ℕ → Float
  summand k i j l = mul binary64 (block_term k i l) (at A l j)

  summand_fits : (k i j l : ℕ) → T (fits binary64 (summand k i j l))
  summand_fits k i j l = mul-fits binary64 (block_term k i l) (at A l j)

  module _ (k : ℕ) (K : suc k ≤ 2 ^ 53) (w : Alike n A B u k) (F : FiniteRows n (series (n + n) A k).term) (i : ℕ) (I : i < n) where
    -- products with lower rows are zeros
    upper_summands : (j : ℕ) → j < n + n → unsigned (sum_to (summand k i j) (n + n)) ≡ unsigned (sum_to (summand k i j) n)
    upper_summands j J =
        ap unsigned (sum_split (summand k i j) n n)
        ∙ from_zeros (sum_to (summand k i j) n) (sum_fits (summand k i j) n) (λ l. summand k i j (n + l)) n
        (λ l L. times_zero binary64 (block_term k i (n + l)) (at A (n + l) j) (F i (n + l) I (omega arith)) (block.low l j L J))

    next-left : (j : ℕ) → j < n → unsigned (block_term (suc k) i j) ≡ unsigned (left_term (suc k) i j)
    next-left j J =
        let g : ℕ → Float = λ l. mul binary64 (left_term k i l) (at B l j) in
        ap unsigned (term-next (n + n) A i j (omega arith) (omega arith) k)
        ∙ div_alike binary64 (sum_to (summand k i j) (n + n)) (sum_to g n) (of_int binary64 (pos (suc k))) (divisor k K)
        (upper_summands j (omega arith)
        ∙ sum_alike (summand k i j) g (summand_fits k i j) (λ l. mul-fits binary64 (left_term k i l) (at B l j)) n
        (λ l L. ap (λ (x : Float). unsigned (mul binary64 (block_term k i l) x)) (block.left l j L J)
        ∙ mul_alike binary64 (block_term k i l) (left_term k i l) (at B l j) (w.left i l I L)))
        ∙ ap unsigned (sym (term-next n B i j I J k))

    -- in a right column all products but one are zeros
    next-right : (j : ℕ) → j < n → unsigned (block_term (suc k) i (n + j)) ≡ unsigned (right_entry n B u (suc k) i j)
    next-right j J =
        let g = summand k i (n + j) in
        ap unsigned (term-next (n + n) A i (n + j) (omega arith) (omega arith) k)
        ∙ div_alike binary64 (sum_to g (n + n)) (mul binary64 (left_term k i j) u) (of_int binary64 (pos (suc k))) (divisor k K)
        (upper_summands (n + j) (omega arith) ∙ ap unsigned (sum_from_lem g n)
        ∙ from_one minus_zero minus_fits g (summand_fits k i (n + j)) j n J
        (λ l L d. times_zero binary64 (block_term k i l) (at A l (n + j)) (F i l I (omega arith)) (block.off l j L J d))
        ∙ add-zero-left binary64 minus_zero (g j) tt (summand_fits k i (n + j) j)
        ∙ ap (λ (x : Float). unsigned (mul binary64 (block_term k i j) x)) (block.diagonal j J)
        ∙ mul_alike binary64 (block_term k i j) (left_term k i j) u (w.left i j I J))

  -- each term up to K is finite, with all rows or by halves
  abbrev FiniteTerms : ℕ → Type 0
  FiniteTerms K = (k : ℕ) → k ≤ K → FiniteRows n (series (n + n) A k).term

  abbrev FiniteTermHalves : ℕ → Type 0
  FiniteTermHalves K = (k : ℕ) → k ≤ K → (i j : ℕ) → i < n → j < n → T (finite (left_term k i j)) × T (finite (right_entry n B u k i j))

  module _ (K : ℕ) (most : K ≤ 2 ^ 53) (ends : FiniteTerms K ⊎ FiniteTermHalves K) where
    finite_at : (k : ℕ) → k ≤ K → Alike n A B u k → FiniteRows n (series (n + n) A k).term
    finite_at k l w =
        ⊎_elim (λ h. h k l)
        (λ h i j I J. by_halves {P = λ j. T (finite (block_term k i j))} n
        (λ j J. unsigned_finite (left_term k i j) (block_term k i j) (sym (w.left i j I J)) (h k l i j I J).0)
        (λ j J. unsigned_finite (right_entry n B u k i j) (block_term k i (n + j)) (sym (w.right i j I J)) (h k l i j I J).1) j J) ends

    alike_at : (k : ℕ) → k ≤ K → Alike n A B u k
    alike_at zero l = record {
      left = λ i j I J. ap unsigned (term_first (n + n) A i j (omega arith) (omega arith) ∙ sym (term_first n B i j I J));
      right = λ i j I J. ap unsigned (term_first (n + n) A i (n + j) (omega arith) (omega arith) ∙ unit_off i (n + j) (λ e. omega arith));
    }
    alike_at (suc k) l =
        let w = alike_at k (omega arith) in
        let F = finite_at k (omega arith) w in
        record { left = λ i j I J. next-left k (omega arith) w F i I j J; right = λ i j I J. next-right k (omega arith) w F i I j J }

    -- ---- the sums
    sums_agree : (k : ℕ) → k ≤ K → Agree n (series (n + n) A k).sum (halves_of n B u k)
    sums_agree zero l = record {
      left = λ i j I J. sum_first (n + n) A i j (omega arith) (omega arith) ∙ sym (sum_first n B i j I J);
      right = λ i j I J.
          sum_first (n + n) A i (n + j) (omega arith) (omega arith) ∙ unit_off i (n + j) (λ e. omega arith) ∙ sym (right_first n B u i j I J);
    }
    sums_agree (suc k) l =
        let v = sums_agree k (omega arith) in
        let w = alike_at (suc k) l in
        record {
          left = λ i j I J.
              sum_next_alike (n + n) A i j (omega arith) (omega arith) k (left_term (suc k) i j) (term_fits n B i j I J k) (v.left i j I J) (w.left i j I J)
              ∙ sym (sum-next n B i j I J k);
          right = λ i j I J.
              sum_next_alike (n + n) A i (n + j) (omega arith) (omega arith) k (right_entry n B u (suc k) i j)
              (div-fits binary64 (mul binary64 (left_term k i j) u) (of_int binary64 (pos (suc k)))) (v.right i j I J) (w.right i j I J)
              ∙ sym (right-next n B u i j I J k);
        }

    -- ---- the lower rows: zeros in each term but the first
    -- A(q, j) is a factor in entry (q, j) of the first term after the identity
    upper_finite_lem : 0 < K → (q j : ℕ) → q < n → j < n + n → T (finite (at A q j))
    upper_finite_lem h q j Q J =
        let t = finite_at 1 h (alike_at 1 h) q j Q J in
        let s = finite_div binary64 (sum_to (summand 0 q j) (n + n)) (of_int binary64 (pos 1)) (rw (term-next (n + n) A q j (omega arith) J 0) at t) in
        (finite_mul binary64 (block_term 0 q q) (at A q j) (sum_finite (summand 0 q j) (n + n) q s (omega arith))).1

    lower_next : (l k : ℕ) → l < n → suc k ≤ K → ((q : ℕ) → q < n → T (is_zero (block_term k (n + l) q)))
        → ((q : ℕ) → q < n → T (finite (block_term k (n + l) (n + q)))) → (j : ℕ) → j < n + n → T (is_zero (block_term (suc k) (n + l) j))
    lower_next l k L b z f j J =
        rw (term-next (n + n) A (n + l) j (omega arith) J k)
        (zero-over binary64 (sum_to (summand k (n + l) j) (n + n)) (of_int binary64 (pos (suc k)))
        (sum_zeros (summand k (n + l) j) (n + n) (by_halves {P = λ q. T (is_zero (summand k (n + l) j q))} n
        (λ q Q. zero-times binary64 (block_term k (n + l) q) (at A q j) (z q Q) (upper_finite_lem (omega arith) q j Q J))
        (λ q Q. times_zero binary64 (block_term k (n + l) (n + q)) (at A (n + q) j) (f q Q) (block.low q j Q J))))
        (divisor k (omega arith)))

    lower_terms : (l k : ℕ) → l < n → suc k ≤ K → (j : ℕ) → j < n + n → T (is_zero (block_term (suc k) (n + l) j))
    lower_terms l zero L b =
        lower_next l zero L b
        (λ q Q. rw (term_first (n + n) A (n + l) q (omega arith) (omega arith), unit_off (n + l) q (λ e. omega arith)) tt)
        (λ q Q. first_finite (n + n) A (n + l) (n + q) (omega arith) (omega arith))
    lower_terms l (suc k) L b =
        let z = lower_terms l k L (omega arith) in
        lower_next l (suc k) L b (λ q Q. z q (omega arith)) (λ q Q. zero_finite (block_term (suc k) (n + l) (n + q)) (z (n + q) (omega arith)))

    lower_sums : (k : ℕ) → k ≤ K → LowerUnit n (series (n + n) A k).sum
    lower_sums zero b l j L J = sum_first (n + n) A (n + l) j (omega arith) J
    lower_sums (suc k) b l j L J =
        let I : n + l < n + n = omega arith in
        sum-next (n + n) A (n + l) j I J k
        ∙ add-zero-same binary64 (at (series (n + n) A k).sum (n + l) j) (block_term (suc k) (n + l) j) (partial_fits (n + n) A (n + l) j I J k)
        (term_fits (n + n) A (n + l) j I J k) (partial_not_minus (n + n) A (n + l) j I J k) (lower_terms l k L b j J)
        ∙ lower_sums k (omega arith) l j L J

  -- ---- from the last sums
  terms_of : (K : ℕ) → FiniteRows n (series (n + n) A K).sum ⊎ FiniteHalves n (halves_of n B u K) → FiniteTerms K ⊎ FiniteTermHalves K
  terms_of K =
      ⊎_elim
      (λ h. inl (λ k l i j I J. terms_finite (λ k. at (series (n + n) A k).sum i j) (λ k. block_term k i j) (sum-next (n + n) A i j (omega arith) J)
      (first_finite (n + n) A i j (omega arith) J) K (h i j I J) k l))
      (λ h. inr (λ k l i j I J. (
        terms_finite (λ k. at (series n B k).sum i j) (λ k. left_term k i j) (sum-next n B i j I J) (first_finite n B i j I J) K (h i j I J).0 k l,
        terms_finite (λ k. at (right_sum n B u k) i j) (λ k. right_entry n B u k i j) (right-next n B u i j I J) tt K (h i j I J).1 k l,
      )))

  pub series_agree : (K : ℕ) → K ≤ 2 ^ 53 → FiniteRows n (series (n + n) A K).sum ⊎ FiniteHalves n (halves_of n B u K)
      → Agree n (series (n + n) A K).sum (halves_of n B u K) × LowerUnit n (series (n + n) A K).sum
  series_agree K most e = let ends = terms_of K e in (sums_agree K most ends K (omega arith), lower_sums K most ends K (omega arith))
