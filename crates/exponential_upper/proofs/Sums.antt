-- Sums of doubles that fit, up to the sign of a zero and as they are: with zeros among the summands, or all zeros but one; and what is finite.
use mathlib.Core.Path.{◌≡◌, refl, sym, ap, ap₂, ◌∙◌}
use Prim.Native.Nat.{ℕ, zero, suc, ◌+◌, ◌<◌}
use native.Mathlib.Nat.{add-zero, add-suc, eq-or-lt_of_le, le_of_suc-le-suc, not-suc-le-zero}
use native.Mathlib.Omega.{arith}
use mathlib.Core.Bool.{Bool, true, false, ◌&&◌, and-true, and-false, and_assoc, and_comm}
use mathlib.Core.Logic.{◌⊎◌, inl, inr, ⊎_elim}
use lib.Dec.{T, eqb, eqb→eq}
use lib.Ieee.{Float, binary64, add, fits}
use lib.Ieee.Fits.{and_l, and_r, and_i, eq→eqb, add-fits}
use lib.Ieee.Scale.{finite}
use Rattle.binary64.specs.Doubles.{minus_zero}
use Rattle.binary64.proofs.Tests.{same_test}
use Rattle.matrix.specs.Matrix.{sum_to, all_to}
use Rattle.exponential_upper.specs.Upper.{sum_from}
use Rattle.exponential_upper.proofs.Rounding.{is_zero}
use Rattle.exponential_upper.proofs.Zeros.{is_minus_zero, unsigned, unsigned_is_zero, same, add-zero-right, add_alike}
use Rattle.exponential_upper.proofs.Signs.{add_minus}
use Rattle.exponential_upper.proofs.Finite.{finite_add}

-- ---- tests of a range
pub all-at : (h : ℕ → Bool) (m k : ℕ) → T (all_to h m) → k < m → T (h k)
unfolding all_to
all-at h zero k t l = absurd (not-suc-le-zero l)
all-at h (suc m) k t l =
    ⊎_elim (λ e. rw e (and_r (all_to h m) (h m) t)) (λ p. all-at h m k (and_l (all_to h m) (h m) t) p) (eq-or-lt_of_le (le_of_suc-le-suc l))

pub all_of : (h : ℕ → Bool) (m : ℕ) → ((k : ℕ) → k < m → T (h k)) → T (all_to h m)
unfolding all_to
all_of h zero e = tt
all_of h (suc m) e = and_i (all_to h m) (h m) (all_of h m (λ k l. e k (omega arith))) (e m (omega arith))

equal_or_not : (k j : ℕ) → (k ≡ j) ⊎ (k ≡ j → ⊥)
equal_or_not k j = go (eqb k j) (eqb→eq k j) (λ e. eq→eqb e)
  where
    go : (b : Bool) → (T b → k ≡ j) → (k ≡ j → T b) → (k ≡ j) ⊎ (k ≡ j → ⊥)
    go true p q = inl (p tt)
    go false p q = inr (λ e. q e)

-- ---- a sum from -0, and one that goes on from another
pub sum_from_lem : (g : ℕ → Float) (m : ℕ) → sum_to g m ≡ sum_from minus_zero g m
unfolding sum_to sum_from
sum_from_lem g zero = refl
sum_from_lem g (suc m) = ap (λ (x : Float). add binary64 x (g m)) (sum_from_lem g m)

pub sum_split : (g : ℕ → Float) (n m : ℕ) → sum_to g (n + m) ≡ sum_from (sum_to g n) (λ k. g (n + k)) m
unfolding sum_to sum_from
sum_split g n zero = rw add-zero
sum_split g n (suc m) = rw add-suc (ap (λ (x : Float). add binary64 x (g (n + m))) (sum_split g n m))

pub minus_fits : T (fits binary64 minus_zero)
unfolding fits
minus_fits = tt

pub from_fits : (z : Float) (g : ℕ → Float) (m : ℕ) → T (fits binary64 z) → T (fits binary64 (sum_from z g m))
unfolding sum_from
from_fits z g zero Z = Z
from_fits z g (suc m) Z = add-fits binary64 (sum_from z g m) (g m)

pub sum_fits : (g : ℕ → Float) (m : ℕ) → T (fits binary64 (sum_to g m))
sum_fits g m = rw sum_from_lem (from_fits minus_zero g m minus_fits)

-- equal summands
pub from_cong : {y z : Float} {g h : ℕ → Float} (m : ℕ) → y ≡ z → ((k : ℕ) → k < m → g k ≡ h k) → sum_from y g m ≡ sum_from z h m
unfolding sum_from
from_cong zero e w = e
from_cong (suc m) e w = ap₂ (add binary64) (from_cong m e (λ k l. w k (omega arith))) (w m (omega arith))

-- ---- a finite sum has finite summands
pub from_finite : (z : Float) (g : ℕ → Float) (m k : ℕ) → T (finite (sum_from z g m)) → k < m → T (finite (g k))
unfolding sum_from
from_finite z g zero k h l = absurd (not-suc-le-zero l)
from_finite z g (suc m) k h l =
    let w = finite_add binary64 (sum_from z g m) (g m) h in
    ⊎_elim (λ e. rw e w.1) (λ p. from_finite z g m k w.0 p) (eq-or-lt_of_le (le_of_suc-le-suc l))

pub sum_finite : (g : ℕ → Float) (m k : ℕ) → T (finite (sum_to g m)) → k < m → T (finite (g k))
sum_finite g m k h l = from_finite minus_zero g m k (rw sum_from_lem at h) l

-- ---- sums that are -0
abbrev pub Fits : (ℕ → Float) → Type 0
Fits g = (k : ℕ) → T (fits binary64 (g k))

abbrev pub all_minus : (ℕ → Float) → ℕ → Bool
all_minus g m = all_to (λ k. is_minus_zero (g k)) m

module _ (z : Float) (Z : T (fits binary64 z)) (g : ℕ → Float) (G : Fits g) where
  from_minus : (m : ℕ) → is_minus_zero (sum_from z g m) ≡ (is_minus_zero z && all_minus g m)
  unfolding sum_from all_to
  from_minus zero = sym (and-true (is_minus_zero z))
  from_minus (suc m) =
      add_minus binary64 (sum_from z g m) (g m) (from_fits z g m Z) (G m) ∙ ap (λ (b : Bool). b && is_minus_zero (g m)) (from_minus m)
      ∙ and_assoc (is_minus_zero z) (all_minus g m) (is_minus_zero (g m))

  from_not_minus : (m q : ℕ) → q < m → is_minus_zero (g q) ≡ false → is_minus_zero (sum_from z g m) ≡ false
  from_not_minus m q l h =
      from_minus m ∙ same_test (is_minus_zero z && all_minus g m) false
      (λ t. rw h at (all-at (λ k. is_minus_zero (g k)) m q (and_r (is_minus_zero z) (all_minus g m) t) l)) (λ t. absurd t)

pub sum_not_minus : (g : ℕ → Float) → Fits g → (m q : ℕ) → q < m → is_minus_zero (g q) ≡ false → is_minus_zero (sum_to g m) ≡ false
sum_not_minus g G m q l h = ap is_minus_zero (sum_from_lem g m) ∙ from_not_minus minus_zero minus_fits g G m q l h

-- ---- summands that are equal up to the sign of a zero
from_alike : (y z : Float) → T (fits binary64 y) → T (fits binary64 z) → unsigned y ≡ unsigned z → (g h : ℕ → Float) → Fits g → Fits h
    → (m : ℕ) → ((k : ℕ) → k < m → unsigned (g k) ≡ unsigned (h k)) → unsigned (sum_from y g m) ≡ unsigned (sum_from z h m)
unfolding sum_from
from_alike y z Y Z e g h G H zero w = e
from_alike y z Y Z e g h G H (suc m) w =
    add_alike binary64 (sum_from y g m) (sum_from z h m) (g m) (h m) (from_fits y g m Y) (from_fits z h m Z) (G m) (H m)
    (from_alike y z Y Z e g h G H m (λ k l. w k (omega arith))) (w m (omega arith))

pub sum_alike : (g h : ℕ → Float) → Fits g → Fits h → (m : ℕ) → ((k : ℕ) → k < m → unsigned (g k) ≡ unsigned (h k))
    → unsigned (sum_to g m) ≡ unsigned (sum_to h m)
sum_alike g h G H m w = rw (sum_from_lem g m, sum_from_lem h m) (from_alike minus_zero minus_zero minus_fits minus_fits refl g h G H m w)

-- ---- zeros
pub from_zeros : (z : Float) → T (fits binary64 z) → (g : ℕ → Float) (m : ℕ) → ((k : ℕ) → k < m → T (is_zero (g k)))
    → unsigned (sum_from z g m) ≡ unsigned z
unfolding sum_from
from_zeros z Z g zero w = refl
from_zeros z Z g (suc m) w =
    add-zero-right binary64 (sum_from z g m) (g m) (from_fits z g m Z) (w m (omega arith)) ∙ from_zeros z Z g m (λ k l. w k (omega arith))

zeros_unsigned : (g : ℕ → Float) (m : ℕ) → ((k : ℕ) → k < m → T (is_zero (g k))) → unsigned (sum_to g m) ≡ unsigned minus_zero
zeros_unsigned g m w = ap unsigned (sum_from_lem g m) ∙ from_zeros minus_zero minus_fits g m w

pub sum_zeros : (g : ℕ → Float) (m : ℕ) → ((k : ℕ) → k < m → T (is_zero (g k))) → T (is_zero (sum_to g m))
sum_zeros g m w = unsigned_is_zero minus_zero (sum_to g m) (sym (zeros_unsigned g m w)) tt

-- all zeros but g q
module _ (z : Float) (Z : T (fits binary64 z)) (g : ℕ → Float) (G : Fits g) (q : ℕ) where
  pub from_one : (m : ℕ) → q < m → ((k : ℕ) → k < m → (k ≡ q → ⊥) → T (is_zero (g k))) → unsigned (sum_from z g m) ≡ unsigned (add binary64 z (g q))
  unfolding sum_from
  from_one zero l w = absurd (not-suc-le-zero l)
  from_one (suc m) l w =
      ⊎_elim
      (λ (e : q ≡ m). rw (← e) (add_alike binary64 (sum_from z g q) z (g q) (g q) (from_fits z g q Z) Z (G q) (G q)
      (from_zeros z Z g q (λ k p. w k (omega arith) (λ d. omega arith))) refl))
      (λ (p : q < m). add-zero-right binary64 (sum_from z g m) (g m) (from_fits z g m Z) (w m (omega arith) (λ d. omega arith))
      ∙ from_one m p (λ k r. w k (omega arith)))
      (eq-or-lt_of_le (le_of_suc-le-suc l))

  -- and where that one is not -0 the zeros do not count
  pub only_one : (m : ℕ) → q < m → ((k : ℕ) → k < m → (k ≡ q → ⊥) → T (is_zero (g k))) → is_minus_zero (g q) ≡ false
      → sum_from z g m ≡ add binary64 z (g q)
  only_one m l w h =
      same binary64 (sum_from z g m) (add binary64 z (g q)) (from_fits z g m Z) (add-fits binary64 z (g q)) (from_one m l w)
      (from_not_minus z Z g G m q l h
      ∙ sym (add_minus binary64 z (g q) Z (G q) ∙ ap (λ (b : Bool). is_minus_zero z && b) h ∙ and-false (is_minus_zero z)))

-- ---- n zeros w behind the sum of g are the same as in front of it
module _ (g w : ℕ → Float) (G : Fits g) (W : Fits w) (n : ℕ) (zeros : (k : ℕ) → k < n → T (is_zero (w k))) where
  in_front : unsigned (sum_to g n) ≡ unsigned (sum_from (sum_to w n) g n)
  in_front =
      ap unsigned (sum_from_lem g n)
      ∙ from_alike minus_zero (sum_to w n) minus_fits (sum_fits w n) (sym (zeros_unsigned w n zeros)) g g G G n (λ k l. refl)

  -- -0 where each of g is, and each of h behind them
  both_minus : (g h : ℕ → Float) → Fits g → Fits h → is_minus_zero (sum_from (sum_to g n) h n) ≡ (all_minus g n && all_minus h n)
  both_minus g h G H =
      from_minus (sum_to g n) (sum_fits g n) h H n
      ∙ ap (λ (b : Bool). b && all_minus h n) (ap is_minus_zero (sum_from_lem g n) ∙ from_minus minus_zero minus_fits g G n)

  pub zeros_first : sum_from (sum_to g n) w n ≡ sum_from (sum_to w n) g n
  zeros_first =
      same binary64 (sum_from (sum_to g n) w n) (sum_from (sum_to w n) g n) (from_fits (sum_to g n) w n (sum_fits g n)) (from_fits (sum_to w n) g n (sum_fits w n))
      (from_zeros (sum_to g n) (sum_fits g n) w n zeros ∙ in_front)
      (both_minus g w G W ∙ and_comm (all_minus g n) (all_minus w n) ∙ sym (both_minus w g W G))

  -- h is w but at j, and w j is -0 where h j is
  module _ (h : ℕ → Float) (H : Fits h) (j : ℕ) (J : j < n) (rest : (k : ℕ) → k < n → (k ≡ j → ⊥) → h k ≡ w k)
      (sign : T (is_minus_zero (h j)) → T (is_minus_zero (w j))) where
    one_more : all_minus h n ≡ (all_minus w n && is_minus_zero (h j))
    one_more =
        same_test (all_minus h n) (all_minus w n && is_minus_zero (h j))
        (λ t. let s : T (is_minus_zero (h j)) = all-at (λ k. is_minus_zero (h k)) n j t J in
        and_i (all_minus w n) (is_minus_zero (h j)) (all_of (λ k. is_minus_zero (w k)) n
        (λ k l. ⊎_elim (λ d. rw d (sign s)) (λ d. rw (← rest k l d) (all-at (λ k. is_minus_zero (h k)) n k t l)) (equal_or_not k j))) s)
        (λ t. all_of (λ k. is_minus_zero (h k)) n
        (λ k l. ⊎_elim (λ d. rw d (and_r (all_minus w n) (is_minus_zero (h j)) t))
        (λ d. rw (rest k l d) (all-at (λ k. is_minus_zero (w k)) n k (and_l (all_minus w n) (is_minus_zero (h j)) t) l)) (equal_or_not k j)))

    pub zeros_first_but_one : sum_from (sum_to g n) h n ≡ add binary64 (sum_from (sum_to w n) g n) (h j)
    zeros_first_but_one =
        let r = sum_from (sum_to w n) g n in
        let R = from_fits (sum_to w n) g n (sum_fits w n) in
        same binary64 (sum_from (sum_to g n) h n) (add binary64 r (h j)) (from_fits (sum_to g n) h n (sum_fits g n)) (add-fits binary64 r (h j))
        (from_one (sum_to g n) (sum_fits g n) h H j n J (λ k l d. rw (rest k l d) (zeros k l))
        ∙ add_alike binary64 (sum_to g n) r (h j) (h j) (sum_fits g n) R (H j) (H j) in_front refl)
        (both_minus g h G H ∙ ap (λ (b : Bool). all_minus g n && b) one_more ∙ sym (and_assoc (all_minus g n) (all_minus w n) (is_minus_zero (h j)))
        ∙ ap (λ (b : Bool). b && is_minus_zero (h j)) (and_comm (all_minus g n) (all_minus w n) ∙ sym (both_minus w g W G))
        ∙ sym (add_minus binary64 r (h j) R (H j)))
