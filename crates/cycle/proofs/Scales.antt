-- A scaled residual never has its sign set: so one that is at most 1 is finite. Assumes nothing.
use mathlib.Core.Path.{◌≡◌, ap, ◌∙◌, subst}
use Prim.Native.Nat.{ℕ, zero, suc, ◌+◌, ◌-◌, ◌*◌, ◌<◌}
use native.Mathlib.Nat.{zero-mul, mul-pos, zero-lt-suc}
use native.Mathlib.Omega.{arith}
use mathlib.Core.Bool.{Bool, true, false, not, cond, ◌&&◌, ◌||◌}
use lib.Dec.{T, ltb, eqb, ltb→lt, eqb→eq, eqb-suc-zero}
use lib.Ieee.{Float, nan, inf, fin, Format, binary64, up, down, round, sum, add, sub, mul, div, lt, le, is_nan}
use lib.Ieee.Exact.{HasValue}
use lib.Ieee.Fits.{up_pos, down_pos}
use lib.Ieee.Scale.{finite}
use Rattle.binary64.specs.Doubles.{negative, magnitude, total_le, larger, nonnegative, positive, one}
use Rattle.binary64.proofs.Signs.{at_least_zero, nonnegative→at_least_zero}
use Rattle.protocol.proofs.ListLaws.{both}
use Rattle.cycle.specs.declared.SteadyStateTolerance.{SteadyStateTolerance}
use Rattle.cycle.specs.Closed.{tolerance_passes, scale_of, scaled_of}
use Rattle.cycle.proofs.Rounding.{zero_value, round_clear}

-- a NaN, or the sign is clear; a NaN, or not below 0
abbrev Clear : Float → Type 0
Clear x = T (not (negative x))

abbrev Fair : Float → Type 0
Fair nan = Unit {0}
Fair (inf s) = T (not s)
Fair (fin s m e) = T (not s || eqb m 0)

clear_fair : (x : Float) → Clear x → Fair x
clear_fair nan h = tt
clear_fair (inf s) h = h
clear_fair (fin true m e) h = absurd h
clear_fair (fin false m e) h = tt

value_fair : (x : Float) (c : ℕ) → 0 < c → HasValue x true 0 c → Fair x
value_fair nan c h v = tt
value_fair (inf s) c h v = absurd v
value_fair (fin false m e) c h v = tt
value_fair (fin true zero e) c h v = tt
value_fair (fin true (suc k) e) c h v = absurd (no (suc k * up e * c) (mul-pos (mul-pos (zero-lt-suc k) (up_pos e)) h) (v.1 ∙ zero-mul (down e)))
  where
    no : (x : ℕ) → 0 < x → x ≡ 0 → ⊥
    no x p q = omega arith

round-zero : (f : Format) (a c : ℕ) → a ≡ 0 → 0 < c → Fair (round f true a c)
round-zero f a c p h = value_fair (round f true a c) c h (zero_value f true a c p h)

-- ---- magnitudes
magnitude_clear : (x : Float) → Clear (magnitude x)
unfolding magnitude
magnitude_clear nan = tt
magnitude_clear (inf s) = tt
magnitude_clear (fin s m e) = tt

larger_clear : (x y : Float) → Clear x → Clear y → Clear (larger x y)
unfolding larger
larger_clear x y p q = on (is_nan y) (is_nan x) (total_le x y)
  where
    on : (a b c : Bool) → Clear (cond a x (cond b y (cond c y x)))
    on true b c = p
    on false true c = q
    on false false true = q
    on false false false = p

-- ---- the scale and the scaled residual
mul_fair : (f : Format) (x y : Float) → T (finite x) → T (at_least_zero x) → Clear y → Fair (mul f x y)
unfolding mul
mul_fair f nan y g h k = absurd g
mul_fair f (inf s) y g h k = absurd g
mul_fair f (fin s m e) nan g h k = tt
mul_fair f (fin s m e) (inf true) g h k = absurd k
mul_fair f (fin false m e) (inf false) g h k = on (eqb m 0)
  where
    on : (b : Bool) → Fair (cond b nan (inf false))
    on true = tt
    on false = tt
mul_fair f (fin true zero e) (inf false) g h k = tt
mul_fair f (fin true (suc m) e) (inf false) g h k = absurd (subst T (eqb-suc-zero m) h)
mul_fair f (fin s m e) (fin true n d) g h k = absurd k
mul_fair f (fin false m e) (fin false n d) g h k = clear_fair (round f false (m * up e * (n * up d)) (down e * down d))
    (round_clear f (m * up e * (n * up d)) (down e * down d))
mul_fair f (fin true m e) (fin false n d) g h k = round-zero f (m * up e * (n * up d)) (down e * down d)
    (ap (λ (x : ℕ). x * up e * (n * up d)) (eqb→eq m 0 h) ∙ simp zero-mul) (mul-pos (down_pos e) (down_pos d))

add_clear : (f : Format) (x y : Float) → T (positive x) → Fair y → Clear (add f x y)
unfolding add lt sum
add_clear f nan y h k = absurd h
add_clear f (inf s) y h k = absurd h
add_clear f (fin true m e) y h k = absurd h
add_clear f (fin false m e) nan h k = tt
add_clear f (fin false m e) (inf t) h k = k
add_clear f (fin false m e) (fin false n d) h k = round_clear f (m * up e * down d + n * up d * down e) (down e * down d)
add_clear f (fin false m e) (fin true n d) h k = on (ltb (m * up e * down d) (n * up d * down e))
    (λ l. no (m * up e * down d) (n * up d * down e) (ltb→lt (m * up e * down d) (n * up d * down e) l)
    (ap (λ (x : ℕ). x * up d * down e) (eqb→eq n 0 k) ∙ simp zero-mul))
  where
    no : (a b : ℕ) → a < b → b ≡ 0 → ⊥
    no a b l p = omega arith

    on : (b : Bool) → (T b → ⊥) → Clear (cond b (round f true (n * up d * down e - m * up e * down d) (down e * down d))
        (round f (false && ltb (n * up d * down e) (m * up e * down d)) (m * up e * down d - n * up d * down e) (down e * down d)))
    on true g = absurd (g tt)
    on false g = round_clear f (m * up e * down d - n * up d * down e) (down e * down d)

div_clear : (f : Format) (x y : Float) → Clear x → Clear y → Clear (div f x y)
unfolding div
div_clear f nan y h k = tt
div_clear f (inf s) nan h k = tt
div_clear f (inf s) (inf t) h k = tt
div_clear f (inf true) (fin t n d) h k = absurd h
div_clear f (inf false) (fin true n d) h k = absurd k
div_clear f (inf false) (fin false n d) h k = tt
div_clear f (fin s m e) nan h k = tt
div_clear f (fin true m e) (inf t) h k = absurd h
div_clear f (fin false m e) (inf true) h k = absurd k
div_clear f (fin false m e) (inf false) h k = tt
div_clear f (fin true m e) (fin t n d) h k = absurd h
div_clear f (fin false m e) (fin true n d) h k = absurd k
div_clear f (fin false m e) (fin false n d) h k = on (eqb n 0) (eqb m 0)
  where
    on : (a b : Bool) → Clear (cond a (cond b nan (inf false)) (round f false (m * up e * down d) (n * up d * down e)))
    on true true = tt
    on true false = tt
    on false b = round_clear f (m * up e * down d) (n * up d * down e)

scaled_clear : (tol : SteadyStateTolerance) (x y : Float) → T (tolerance_passes tol) → Clear (scaled_of tol x y)
unfolding scaled_of scale_of tolerance_passes
scaled_clear tol x y h =
    let p = both (positive tol.absolute) (nonnegative tol.relative) h in
    let q = both (finite tol.relative) _ p.1 in
    div_clear binary64 (magnitude (sub binary64 y x)) (scale_of tol x y) (magnitude_clear (sub binary64 y x))
    (add_clear binary64 tol.absolute (mul binary64 tol.relative (larger (magnitude x) (magnitude y))) p.0
    (mul_fair binary64 tol.relative (larger (magnitude x) (magnitude y)) q.0 (nonnegative→at_least_zero tol.relative p.1)
    (larger_clear (magnitude x) (magnitude y) (magnitude_clear x) (magnitude_clear y))))

clear_finite : (x : Float) → Clear x → T (le x one) → T (finite x)
unfolding le
clear_finite nan h k = k
clear_finite (inf true) h k = absurd h
clear_finite (inf false) h k = k
clear_finite (fin s m e) h k = tt

pub at_most_finite : (tol : SteadyStateTolerance) (x y : Float) → T (tolerance_passes tol) → T (le (scaled_of tol x y) one) → T (finite (scaled_of tol x y))
at_most_finite tol x y h k = clear_finite (scaled_of tol x y) (scaled_clear tol x y h) k
