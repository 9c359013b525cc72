-- The code's test of a volume count.
use mathlib.Core.Path.{◌≡◌, refl, sym, ap, subst}
use mathlib.Core.Bool.{Bool, true, false, ◌&&◌}
use Prim.Native.Nat.{ℕ, ◌+◌, ◌*◌, ◌%◌, ◌≤◌}
use native.Mathlib.Nat.{mod-eq_of_lt}
use native.Mathlib.Omega.{arith}
use lib.Dec.{T, eqb, leb, leb→le}
use Rattle.limits.specs.Limits.{states, most_volumes}

-- a volume count that is not above the most is its remainder by one more
pub by_one_more : (v n : ℕ) → leb v most_volumes && eqb n (2 * (v % states) + 3) ≡ leb v most_volumes && eqb n (2 * v + 3)
by_one_more v n = on (leb v most_volumes) refl
  where
    on : (b : Bool) → leb v most_volumes ≡ b → b && eqb n (2 * (v % states) + 3) ≡ b && eqb n (2 * v + 3)
    on true e = let l : v ≤ most_volumes = leb→le v most_volumes (subst T (sym e) tt) in ap (λ (k : ℕ). eqb n (2 * k + 3)) (mod-eq_of_lt (omega arith))
    on false e = refl
