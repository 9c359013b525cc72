-- Sums and quotients of values at or above 0 are at or above 0, an infinity included. Assumes nothing.
use mathlib.Core.Path.{◌≡◌, sym, ap, ◌∙◌, subst}
use Prim.Native.Nat.{ℕ, zero, suc, ◌+◌, ◌-◌, ◌*◌, ◌^◌, ◌<◌}
use lib.Pow.{pow_pos}
use lib.Ieee.Exact.{HasValue, round_exact}
use lib.Ieee.Scale.{finite}
use native.Mathlib.Nat.{mul-pos, zero-lt-suc, zero-mul}
use native.Mathlib.Omega.{arith}
use mathlib.Core.Bool.{Bool, true, false, not, cond, ◌&&◌, ◌||◌}
use lib.IntN.{ℤ}
use lib.Dec.{T, ltb, eqb, ltb→lt, lt→ltb, eqb→eq, eqb-suc-zero, T_not, not_T}
use lib.Ieee.{Float, nan, inf, fin, Format, up, down, round, units, odd, sum, add, div, lt, unlike, low, emax, prec}
use lib.Ieee.Fits.{up_pos, down_pos, and_l, and_r}
use Rattle.binary64.specs.Doubles.{plus_zero, nonnegative, positive}

-- no NaN, and the sign is clear or it is a zero
abbrev pub at_least_zero : Float → Bool
at_least_zero nan = false
at_least_zero (inf s) = not s
at_least_zero (fin s m e) = not s || eqb m 0

zero-product : (x y : ℕ) → 0 * x * y ≡ 0
zero-product x y = simp zero-mul

at_least_zero→nlt : (x : Float) → T (at_least_zero x) → T (not (lt x plus_zero))
unfolding lt
at_least_zero→nlt nan h = absurd h
at_least_zero→nlt (inf true) h = absurd h
at_least_zero→nlt (inf false) h = tt
at_least_zero→nlt (fin false m e) h = not_T (ltb (m * up e * 1) (0 * down e)) (λ (l : T (ltb (m * up e * 1) (0 * down e))). omega
    (arith, ltb→lt (m * up e * 1) (0 * down e) l, zero-mul (down e)))
at_least_zero→nlt (fin true m e) h =
    not_T (ltb 0 (m * up e * 1 + 0 * down e))
    (λ (l : T (ltb 0 (m * up e * 1 + 0 * down e))). omega (
      arith,
      ltb→lt 0 (m * up e * 1 + 0 * down e) l,
      zero-mul (down e),
      ap (λ (x : ℕ). x * up e * 1) (eqb→eq m 0 h) ∙ zero-product (up e) 1,
    ))

nlt→at_least_zero : (x : Float) → T (finite x) → T (not (lt x plus_zero)) → T (at_least_zero x)
unfolding lt
nlt→at_least_zero nan f h = absurd f
nlt→at_least_zero (inf s) f h = absurd f
nlt→at_least_zero (fin false m e) f h = tt
nlt→at_least_zero (fin true zero e) f h = tt
nlt→at_least_zero (fin true (suc k) e) f h =
    absurd (T_not (ltb 0 (suc k * up e * 1 + 0 * down e)) h (lt→ltb 0 (suc k * up e * 1 + 0 * down e)
    (positive (suc k * up e * 1) (0 * down e) (mul-pos (mul-pos (zero-lt-suc k) (up_pos e)) (zero-lt-suc 0)))))
  where
    positive : (a b : ℕ) → 0 < a → 0 < a + b
    positive a b p = omega arith

-- finite as well: what `nonnegative` tests
pub nonnegative→at_least_zero : (x : Float) → T (nonnegative x) → T (at_least_zero x)
nonnegative→at_least_zero x h = nlt→at_least_zero x (and_l (finite x) (not (lt x plus_zero)) h) (and_r (finite x) (not (lt x plus_zero)) h)

pub at_least_zero→nonnegative : (x : Float) → T (finite x) → T (at_least_zero x) → T (nonnegative x)
at_least_zero→nonnegative x f h = on (finite x) f (at_least_zero→nlt x h)
  where
    on : (b : Bool) → T b → T (not (lt x plus_zero)) → T (b && not (lt x plus_zero))
    on true t k = k
    on false t k = t

-- ---- what is rounded keeps its sign, and 0 is 0
odd_at_least_zero : (d q k l : ℕ) → T (at_least_zero (odd d false q k l))
unfolding odd
odd_at_least_zero d zero k l = tt
odd_at_least_zero d (suc q) k l = tt

units_at_least_zero : (f : Format) (q k : ℕ) → T (at_least_zero (units f false q k))
unfolding units
units_at_least_zero f q k = on (ltb (q * 2 ^ k) (2 ^ (low f + suc (emax f))))
  where
    on : (b : Bool) → T (at_least_zero (cond b (odd (suc (prec f)) false q k (low f)) (inf false)))
    on true = odd_at_least_zero (suc (prec f)) q k (low f)
    on false = tt

round_at_least_zero : (f : Format) (a c : ℕ) → T (at_least_zero (round f false a c))
unfolding round
round_at_least_zero f a c = units_at_least_zero f _ _

value_zero : (x : Float) (c : ℕ) → 0 < c → HasValue x true 0 c → T (at_least_zero x)
value_zero nan c h v = absurd v
value_zero (inf s) c h v = absurd v
value_zero (fin false m e) c h v = tt
value_zero (fin true zero e) c h v = tt
value_zero (fin true (suc k) e) c h v = absurd (no (suc k * up e * c) (mul-pos (mul-pos (zero-lt-suc k) (up_pos e)) h) (v.1 ∙ zero-mul (down e)))
  where
    no : (x : ℕ) → 0 < x → x ≡ 0 → ⊥
    no x p q = omega arith

round-zero : (f : Format) (a c : ℕ) → a ≡ 0 → 0 < c → T (at_least_zero (round f true a c))
round-zero f a c p h =
    subst (λ (x : ℕ). T (at_least_zero (round f true x c))) (sym p)
    (value_zero (round f true 0 c) c h (round_exact f true 0 c 0 0 h (pow_pos (prec f))
    (subst (λ (x : ℕ). x < 2 ^ (low f + suc (emax f))) (sym (zero-mul (2 ^ 0))) (pow_pos (low f + suc (emax f)))) (simp zero-mul)))

-- ---- sums
sum_at_least_zero : (f : Format) (s : Bool) (a : ℕ) (t : Bool) (b c : ℕ) → 0 < c → (T s → a ≡ 0) → (T t → b ≡ 0) → T (at_least_zero (sum f s a t b c))
unfolding sum
sum_at_least_zero f false a false b c h p q = round_at_least_zero f (a + b) c
sum_at_least_zero f true a true b c h p q = round-zero f (a + b) c (zeros a b (p tt) (q tt)) h
  where
    zeros : (a b : ℕ) → a ≡ 0 → b ≡ 0 → a + b ≡ 0
    zeros a b p q = omega arith
sum_at_least_zero f false a true b c h p q = on (ltb a b) (λ l. no (ltb→lt a b l))
  where
    no : a < b → ⊥
    no l = omega (arith, q tt)

    on : (x : Bool) → (T x → ⊥) → T (at_least_zero (cond x (round f true (b - a) c) (round f (false && ltb b a) (a - b) c)))
    on true k = absurd (k tt)
    on false k = round_at_least_zero f (a - b) c
sum_at_least_zero f true a false b c h p q = on (ltb a b) (ltb b a) (λ l. no (ltb→lt b a l))
  where
    no : b < a → ⊥
    no l = omega (arith, p tt)

    on : (x y : Bool) → (T y → ⊥) → T (at_least_zero (cond x (round f false (b - a) c) (round f (true && y) (a - b) c)))
    on true y k = round_at_least_zero f (b - a) c
    on false true k = absurd (k tt)
    on false false k = round_at_least_zero f (a - b) c

-- with the sign set it is a zero
flat : (s : Bool) (m : ℕ) (e : ℤ) (u : ℕ) → T (at_least_zero (fin s m e)) → T s → m * up e * u ≡ 0
flat false m e u h t = absurd t
flat true m e u h t = ap (λ (x : ℕ). x * up e * u) (eqb→eq m 0 h) ∙ zero-product (up e) u

pub add_at_least_zero : (f : Format) (x y : Float) → T (at_least_zero x) → T (at_least_zero y) → T (at_least_zero (add f x y))
unfolding add
add_at_least_zero f nan y h k = absurd h
add_at_least_zero f (inf s) nan h k = absurd k
add_at_least_zero f (inf true) (inf t) h k = absurd h
add_at_least_zero f (inf false) (inf true) h k = absurd k
add_at_least_zero f (inf false) (inf false) h k = tt
add_at_least_zero f (inf s) (fin t n d) h k = h
add_at_least_zero f (fin s m e) nan h k = absurd k
add_at_least_zero f (fin s m e) (inf t) h k = k
add_at_least_zero f (fin s m e) (fin t n d) h k = sum_at_least_zero f s (m * up e * down d) t (n * up d * down e) (down e * down d)
    (mul-pos (down_pos e) (down_pos d)) (flat s m e (down d) h) (flat t n d (down e) k)

-- ---- quotients by what is above 0
quotient_at_least_zero : (f : Format) (x y : Float) → T (finite x) → T (at_least_zero x) → T (finite y) → T (lt plus_zero y) → T (at_least_zero (div f x y))
unfolding div lt
quotient_at_least_zero f nan y g h k l = absurd g
quotient_at_least_zero f (inf s) y g h k l = absurd g
quotient_at_least_zero f (fin s m e) nan g h k l = absurd k
quotient_at_least_zero f (fin s m e) (inf t) g h k l = absurd k
quotient_at_least_zero f (fin s m e) (fin true n d) g h k l = absurd l
quotient_at_least_zero f (fin s m e) (fin false zero d) g h k l = absurd (no (ltb→lt (0 * down d) (0 * up d * 1) l))
  where
    no : 0 * down d < 0 * up d * 1 → ⊥
    no p = omega (arith, zero-product (up d) 1)
quotient_at_least_zero f (fin s m e) (fin false (suc n) d) g h k l = subst (λ (b : Bool). T
    (at_least_zero (cond b (cond (eqb m 0) nan (inf (unlike s false))) (round f (unlike s false) (m * up e * down d)
    (suc n * up d * down e))))) (sym (eqb-suc-zero n)) (on s h)
  where
    on : (s : Bool) → T (at_least_zero (fin s m e)) → T (at_least_zero (round f (unlike s false) (m * up e * down d) (suc n * up d * down e)))
    on false h = round_at_least_zero f (m * up e * down d) (suc n * up d * down e)
    on true h =
        round-zero f (m * up e * down d) (suc n * up d * down e) (flat true m e (down d) h tt)
        (mul-pos (mul-pos (zero-lt-suc n) (up_pos d)) (down_pos e))

pub div_at_least_zero : (f : Format) (x y : Float) → T (nonnegative x) → T (positive y) → T (at_least_zero (div f x y))
div_at_least_zero f x y h k =
    quotient_at_least_zero f x y (and_l (finite x) (not (lt x plus_zero)) h) (nonnegative→at_least_zero x h) (and_l (finite y) (lt plus_zero y) k)
    (and_r (finite y) (lt plus_zero y) k)
