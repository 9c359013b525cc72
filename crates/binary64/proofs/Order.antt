-- The order of values that fit and are no NaN: each test is one of numbers, between their places on the line (`spot`). Assumes nothing.
use mathlib.Core.Path.{◌≡◌, sym, ap₂, ◌∙◌, subst}
use Prim.Native.Nat.{◌≤◌, ◌<◌}
use native.Mathlib.Nat.{lt_trans}
use mathlib.Core.Bool.{Bool, not, ◌||◌}
use lib.Dec.{T, leb, leb→le, le→leb, ltb→lt, lt→ltb, eqb→eq}
use lib.Ieee.{Float, nan, inf, fin, Format, fits, is_nan, lt, eq, le}
use lib.Ieee.Fits.{eq→eqb}
use lib.Ieee.Scale.{finite}
use Rattle.binary64.proofs.Tests.{or_iff}
use Rattle.binary64.proofs.Units.{spot, lt_spot, eq_spot, Good}

le_spot : (f : Format) (x y : Float) → Good f x → Good f y → le x y ≡ leb (spot f x) (spot f y)
unfolding le
le_spot f x y p q =
    ap₂ (λ (a b : Bool). a || b) (lt_spot f x y p.0 q.0 p.1 q.1) (eq_spot f x y p.0 q.0 p.1 q.1)
    ∙ or_iff (spot f x) (spot f y)

module _ (f : Format) (x y : Float) (p : Good f x) (q : Good f y) where
  pub lt→spot : T (lt x y) → spot f x < spot f y
  lt→spot h = ltb→lt (spot f x) (spot f y) (subst T (lt_spot f x y p.0 q.0 p.1 q.1) h)

  pub spot→lt : spot f x < spot f y → T (lt x y)
  spot→lt h = subst T (sym (lt_spot f x y p.0 q.0 p.1 q.1)) (lt→ltb (spot f x) (spot f y) h)

  pub le→spot : T (le x y) → spot f x ≤ spot f y
  le→spot h = leb→le (spot f x) (spot f y) (subst T (le_spot f x y p q) h)

  pub spot→le : spot f x ≤ spot f y → T (le x y)
  spot→le h = subst T (sym (le_spot f x y p q)) (le→leb (spot f x) (spot f y) h)

  pub eq→spot : T (eq x y) → spot f x ≡ spot f y
  eq→spot h = eqb→eq (spot f x) (spot f y) (subst T (eq_spot f x y p.0 q.0 p.1 q.1) h)

  pub spot→eq : spot f x ≡ spot f y → T (eq x y)
  spot→eq h = subst T (sym (eq_spot f x y p.0 q.0 p.1 q.1)) (eq→eqb h)

pub lt_transitive : (f : Format) (x y z : Float) → Good f x → Good f y → Good f z → T (lt x y) → T (lt y z) → T (lt x z)
lt_transitive f x y z p q r h k = spot→lt f x z p r (lt_trans (lt→spot f x y p q h) (lt→spot f y z q r k))

-- ---- finite values
pub not_nan : (x : Float) → T (finite x) → T (not (is_nan x))
unfolding is_nan
not_nan nan h = absurd h
not_nan (inf s) h = absurd h
not_nan (fin s m e) h = tt

-- fits and is finite
pub record Real (f : Format) (x : Float) : Type 0 where
  pub fit : T (fits f x)
  pub is_finite : T (finite x)

pub real_good : {f : Format} {x : Float} → Real f x → Good f x
real_good {f} {x} p = (p.fit, not_nan x p.is_finite)
