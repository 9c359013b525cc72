-- Equal tests, each shown by two implications; and what `is_nan` says of x. Assumes nothing.
use mathlib.Core.Path.{◌≡◌, refl, sym, subst}
use Prim.Native.Nat.{ℕ, ◌≤◌, ◌<◌}
use native.Mathlib.Nat.{le_of_eq, le_of_lt, eq-or-lt_of_le}
use mathlib.Core.Bool.{Bool, true, false, not, ◌||◌}
use mathlib.Core.Logic.{◌⊎◌, inl, inr}
use lib.Dec.{T, leb, ltb, eqb, leb→le, le→leb, ltb→lt, lt→ltb, eqb→eq}
use lib.Ieee.{Float, nan, inf, fin, is_nan}
use lib.Ieee.Fits.{eq→eqb}

pub same_test : (a b : Bool) → (T a → T b) → (T b → T a) → a ≡ b
same_test true true p q = refl
same_test true false p q = absurd (p tt)
same_test false true p q = absurd (q tt)
same_test false false p q = refl

pub iff_ltb : (a b c d : ℕ) → (a < b → c < d) → (c < d → a < b) → ltb a b ≡ ltb c d
iff_ltb a b c d p q = same_test (ltb a b) (ltb c d) (λ t. lt→ltb c d (p (ltb→lt a b t))) (λ t. lt→ltb a b (q (ltb→lt c d t)))

pub iff_leb : (a b c d : ℕ) → (a ≤ b → c ≤ d) → (c ≤ d → a ≤ b) → leb a b ≡ leb c d
iff_leb a b c d p q = same_test (leb a b) (leb c d) (λ t. le→leb c d (p (leb→le a b t))) (λ t. le→leb a b (q (leb→le c d t)))

pub iff_eqb : (a b c d : ℕ) → (a ≡ b → c ≡ d) → (c ≡ d → a ≡ b) → eqb a b ≡ eqb c d
iff_eqb a b c d p q = same_test (eqb a b) (eqb c d) (λ t. eq→eqb (p (eqb→eq a b t))) (λ t. eq→eqb (q (eqb→eq c d t)))

pub or_iff : (a b : ℕ) → (ltb a b || eqb a b) ≡ leb a b
or_iff a b =
    same_test (ltb a b || eqb a b) (leb a b) (λ t. le→leb a b (fro (ltb a b) (eqb a b) (ltb→lt a b) (eqb→eq a b) t))
    (λ t. to (eq-or-lt_of_le (leb→le a b t)))
  where
    fro : (x y : Bool) → (T x → a < b) → (T y → a ≡ b) → T (x || y) → a ≤ b
    fro true y p q t = le_of_lt (p tt)
    fro false y p q t = le_of_eq (q t)

    in_l : (x y : Bool) → T x → T (x || y)
    in_l true y t = tt
    in_l false y t = absurd t

    in_r : (x y : Bool) → T y → T (x || y)
    in_r true y t = tt
    in_r false y t = t

    to : (a ≡ b) ⊎ (a < b) → T (ltb a b || eqb a b)
    to (inl e) = in_r (ltb a b) (eqb a b) (eq→eqb e)
    to (inr l) = in_l (ltb a b) (eqb a b) (lt→ltb a b l)

-- ---- `x.is_nan()`
pub is_nan_lem : (x : Float) → is_nan x ≡ true → x ≡ nan
unfolding is_nan
is_nan_lem nan e = refl
is_nan_lem (inf s) e = absurd (subst T (sym e) tt)
is_nan_lem (fin s m e) h = absurd (subst T (sym h) tt)

pub is_real : (x : Float) → is_nan x ≡ false → T (not (is_nan x))
is_real x e = subst (λ (b : Bool). T (not b)) (sym e) tt
