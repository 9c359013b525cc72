-- The total order of values that are no NaN is the order of their ranks, on one line of naturals; and where a NaN stands. Assumes nothing.
use mathlib.Core.Path.{◌≡◌, refl, ap, ap₂, ◌∙◌}
use Prim.Native.Nat.{ℕ, suc, ◌+◌, ◌-◌, ◌≤◌}
use native.Mathlib.Omega.{arith}
use mathlib.Core.Bool.{Bool, true, false, not, ◌&&◌, ◌||◌, cond, and-true, and-false, or-false}
use lib.Dec.{T, leb, ltb, eqb}
use lib.Ieee.{Float, nan, Format, is_nan, lt, eq}
use lib.Ieee.Scale.{overflow}
use lib.Ieee.Bits.{is_false}
use Rattle.binary64.specs.Doubles.{negative, total_le, larger, smaller}
use Rattle.binary64.proofs.Tests.{iff_leb, or_iff}
use Rattle.binary64.proofs.Units.{on_line, spot_line, lt_spot, eq_spot, mag, mag_le, Good}

unfoldable pub rank : Format → Float → ℕ
rank f x = on_line (overflow f) (negative x) (mag f x) + cond (negative x) 0 1

rank_test : (K : ℕ) (s t : Bool) (M N : ℕ) → M ≤ K → N ≤ K
    → (ltb (on_line K s M) (on_line K t N) || (eqb (on_line K s M) (on_line K t N) && (s || not t)))
    ≡ leb (on_line K s M + cond s 0 1) (on_line K t N + cond t 0 1)
rank_test K true true M N h k =
    ap (λ (b : Bool). ltb (K - M) (K - N) || b) (and-true (eqb (K - M) (K - N))) ∙ or_iff (K - M) (K - N)
    ∙ iff_leb (K - M) (K - N) (K - M + 0) (K - N + 0) (omega arith) (omega arith)
rank_test K true false M N h k =
    ap (λ (b : Bool). ltb (K - M) (K + N) || b) (and-true (eqb (K - M) (K + N))) ∙ or_iff (K - M) (K + N)
    ∙ iff_leb (K - M) (K + N) (K - M + 0) (K + N + 1) (omega arith) (omega arith)
rank_test K false true M N h k =
    ap (λ (b : Bool). ltb (K + M) (K - N) || b) (and-false (eqb (K + M) (K - N))) ∙ or-false (ltb (K + M) (K - N))
    ∙ iff_leb (suc (K + M)) (K - N) (K + M + 1) (K - N + 0) (omega arith) (omega arith)
rank_test K false false M N h k =
    ap (λ (b : Bool). ltb (K + M) (K + N) || b) (and-true (eqb (K + M) (K + N))) ∙ or_iff (K + M) (K + N)
    ∙ iff_leb (K + M) (K + N) (K + M + 1) (K + N + 1) (omega arith) (omega arith)

pub total_rank : (f : Format) (x y : Float) → Good f x → Good f y → total_le x y ≡ leb (rank f x) (rank f y)
unfolding total_le rank
total_rank f x y p q =
    ap (λ (b : Bool). b || (lt x y || (eq x y && (negative x || not (negative y))))) (is_false (is_nan y) q.1)
    ∙ ap₂ (λ (a b : Bool). a || (b && (negative x || not (negative y)))) (lt_spot f x y p.0 q.0 p.1 q.1) (eq_spot f x y p.0 q.0 p.1 q.1)
    ∙ ap₂ (λ (a b : ℕ). ltb a b || (eqb a b && (negative x || not (negative y)))) (spot_line f x p.1) (spot_line f y q.1)
    ∙ rank_test (overflow f) (negative x) (negative y) (mag f x) (mag f y) (mag_le f x p.0) (mag_le f y q.0)

-- ---- a NaN is after all else
pub total_nan : (x : Float) → total_le x nan ≡ true
unfolding total_le
total_nan x = refl

pub nan_total : (y : Float) → T (not (is_nan y)) → total_le nan y ≡ false
unfolding total_le
nan_total y h = ap (λ (b : Bool). b || false) (is_false (is_nan y) h)

-- ---- a NaN gives way to the other
pub larger_nan : (x : Float) → larger x nan ≡ x
unfolding larger
larger_nan x = refl

pub smaller_nan : (x : Float) → smaller x nan ≡ x
unfolding smaller
smaller_nan x = refl

-- ---- `larger` and `smaller`, by the tests that code makes: a where x is not after y, and b where it is
abbrev pub choice : Float → Float → Float → Float → Float
choice x y a b = cond (is_nan y) x (cond (is_nan x) y (cond (total_le x y) a b))

module _ (x y a b : Float) where
  pub choice_first : is_nan y ≡ true → x ≡ choice x y a b
  unfolding is_nan
  choice_first h = rw h

  pub choice_second : is_nan y ≡ false → is_nan x ≡ true → y ≡ choice x y a b
  unfolding is_nan
  choice_second h k = rw (h, k)

  pub choice_order : is_nan y ≡ false → is_nan x ≡ false → (t : Bool) → total_le x y ≡ t → cond t a b ≡ choice x y a b
  choice_order h k t e = rw (h, k, e)
