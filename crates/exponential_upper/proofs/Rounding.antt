-- What rounding keeps: a value that fits is what its own fraction is rounded to, and a fraction of at least one unit is not rounded to 0.
use mathlib.Core.Path.{◌≡◌, refl, sym, ap, ap₂, ◌∙◌, subst}
use Prim.Native.Nat.{ℕ, zero, suc, ◌+◌, ◌-◌, ◌*◌, ◌/◌, ◌^◌, ◌≤◌, ◌<◌}
use native.Mathlib.Nat.{le_of_eq, lt_of_lt_of_le, mul_assoc, mul-one, one-mul, zero-mul, zero-lt-suc, eq_of_mul-eq-mul_right}
use native.Mathlib.Omega.{arith}
use mathlib.Core.Bool.{Bool, true, false, cond}
use lib.IntN.{ℤ, pos, negsuc}
use lib.Count.{count_trailing_zeros}
use lib.Dec.{T, ltb, le→leb, eqb→eq, lit<}
use lib.Pow.{pow-add, pow_pos, pow-lt, pow_mono}
use lib.Ieee.{Float, nan, inf, fin, Format, prec, emax, low, up, down, odd, units, round, fits, is_nan}
use lib.Ieee.Fits.{down_pos, round-fits, eq→eqb, two}
use lib.Ieee.Exact.{HasValue, round_exact}
use lib.Ieee.Order.{round_mono}
use lib.Ieee.Scale.{overflow, round_same}
use lib.Ieee.Positive.{above, positive_of_value, above_of_le}
use Rattle.binary64.specs.Doubles.{negative, total_le}
use Rattle.binary64.proofs.Units.{pow_le_back, pow_split, quanta, quanta_exact, quanta_lt, fits_says, scaled, scale_eqb, on_line, mag, Good}
use Rattle.binary64.proofs.Total.{rank, total_rank}
use Rattle.binary64.proofs.TotalOrder.{total_antisym}

-- a zero of either sign
abbrev pub is_zero : Float → Bool
is_zero nan = false
is_zero (inf s) = false
is_zero (fin s zero e) = true
is_zero (fin s (suc m) e) = false

-- ---- one sign and one magnitude, one value
pub same_value : (f : Format) (x y : Float) → Good f x → Good f y → negative x ≡ negative y → mag f x ≡ mag f y → x ≡ y
same_value f x y p q s m = total_antisym f x y p.0 q.0 (before x y p q ranks) (before y x q p (sym ranks))
  where
    ranks : rank f x ≡ rank f y
    ranks = unfold rank in ap₂ (λ (b : Bool) (k : ℕ). on_line (overflow f) b k + cond b 0 1) s m

    before : (x y : Float) → Good f x → Good f y → rank f x ≡ rank f y → T (total_le x y)
    before x y p q e = subst T (sym (total_rank f x y p q)) (le→leb (rank f x) (rank f y) (le_of_eq e))

has_value : (f : Format) (x : Float) (s : Bool) (m : ℕ) (e : ℤ) → T (fits f x) → T (fits f (fin s m e)) → HasValue x s (m * up e) (down e)
    → x ≡ fin s m e
has_value f nan s m e X Y v = absurd v
has_value f (inf t) s m e X Y v = absurd v
has_value f (fin t n d) s m e X Y v =
    same_value f (fin t n d) (fin s m e) (X, unfold is_nan in tt) (Y, unfold is_nan in tt) v.0
    (eqb→eq (quanta f n d) (quanta f m e) (subst T (scale_eqb (scaled f t n d s m e X Y)) (eq→eqb v.1)))

-- ---- a value that fits is m times a power of two of units, and so it is rounded to itself
power_of_two : (l : ℕ) (e : ℤ) → down e ≤ 2 ^ l → (j : ℕ) × (up e * 2 ^ l ≡ 2 ^ j * down e)
power_of_two l (pos a) h = (a + l, sym (mul-one (2 ^ (a + l)) ∙ pow-add 2 a l))
power_of_two l (negsuc a) h = (l - suc a, simp one-mul (simp one-mul at (pow_split 1 l (suc a) (pow_le_back (suc a) l h))))

exact : (f : Format) (s : Bool) (m : ℕ) (e : ℤ) → T (fits f (fin s m e)) → HasValue (round f s (m * up e) (down e)) s (m * up e) (down e)
exact f s zero e h =
    round_exact f s (0 * up e) (down e) 0 0 (down_pos e) (pow_pos (prec f)) (pow_pos (low f + suc (emax f))) (simp zero-mul)
exact f s (suc m) e h =
    let w = fits_says f s m e h in
    let z = power_of_two (low f) e w.2 in
    let shifted : suc m * up e * 2 ^ low f ≡ suc m * 2 ^ z.0 * down e = mul_assoc (suc m) (up e) (2 ^ low f)
    ∙ ap (λ (x : ℕ). suc m * x) z.1 ∙ sym (mul_assoc (suc m) (2 ^ z.0) (down e)) in
    let quanta-is : quanta f (suc m) e ≡ suc m * 2 ^ z.0 = eq_of_mul-eq-mul_right (down e) (down_pos e) (quanta f (suc m) e) (suc m * 2 ^ z.0)
    (sym (quanta_exact f s (suc m) e h) ∙ shifted) in
    round_exact f s (suc m * up e) (down e) (suc m) z.0 (down_pos e) w.1 (rw quanta-is at (quanta_lt f s (suc m) e h)) shifted

pub round_self : (f : Format) (s : Bool) (m : ℕ) (e : ℤ) → T (fits f (fin s m e)) → round f s (m * up e) (down e) ≡ fin s m e
round_self f s m e h = has_value f (round f s (m * up e) (down e)) s m e (round-fits f s (m * up e) (down e)) h (exact f s m e h)

pub round-zero : (f : Format) (s : Bool) (c : ℕ) → 0 < c → round f s 0 c ≡ fin s 0 (pos 0)
round-zero f s c h = round_same f s 0 c (0 * 1) 1 h (zero-lt-suc 0) (simp zero-mul) ∙ round_self f s 0 (pos 0) (unfold fits in tt)

-- ---- whether a rounding is a zero does not depend on the sign
fin_zero : (s : Bool) (m : ℕ) (e : ℤ) → is_zero (fin s m e) ≡ is_zero (fin false m e)
fin_zero s zero e = refl
fin_zero s (suc m) e = refl

odd_zero : (d : ℕ) (s : Bool) (q k l : ℕ) → is_zero (odd d s q k l) ≡ is_zero (odd d false q k l)
unfolding odd
odd_zero d s zero k l = refl
odd_zero d s (suc q) k l = fin_zero s (suc q / 2 ^ count_trailing_zeros d (suc q)) _

units_zero : (f : Format) (s : Bool) (q k : ℕ) → is_zero (units f s q k) ≡ is_zero (units f false q k)
unfolding units
units_zero f s q k = go (ltb (q * 2 ^ k) (overflow f))
  where
    go : (b : Bool) → is_zero (cond b (odd (suc (prec f)) s q k (low f)) (inf s)) ≡ is_zero (cond b (odd (suc (prec f)) false q k (low f)) (inf false))
    go true = odd_zero (suc (prec f)) s q k (low f)
    go false = refl

round_sign : (f : Format) (s : Bool) (a c : ℕ) → is_zero (round f s a c) ≡ is_zero (round f false a c)
unfolding round
round_sign f s a c = units_zero f s _ _

-- ---- a fraction of at least one unit
above_zero : (x : Float) → T (above x) → is_zero x ≡ false
above_zero nan h = absurd h
above_zero (inf s) h = refl
above_zero (fin true m e) h = absurd h
above_zero (fin false zero e) h = absurd h
above_zero (fin false (suc m) e) h = refl

one_unit : (f : Format) → HasValue (round f false 1 (2 ^ low f)) false 1 (2 ^ low f)
one_unit f =
    round_exact f false 1 (2 ^ low f) 1 0 (pow_pos (low f)) (lt_of_lt_of_le (lit< {m = 1} {n = 2 ^ 2} tt) (pow_mono (two f)))
    (pow-lt (room (low f) (emax f))) refl
  where
    room : (l e : ℕ) → 0 < l + suc e
    room l e = omega arith

pub round_nonzero : (f : Format) (s : Bool) (a c : ℕ) → 0 < c → c ≤ a * 2 ^ low f → is_zero (round f s a c) ≡ false
round_nonzero f s a c C h =
    let least = round f false 1 (2 ^ low f) in
    round_sign f s a c
    ∙ above_zero (round f false a c) (above_of_le least (round f false a c) (positive_of_value least 1 (2 ^ low f) (one_unit f) (zero-lt-suc 0))
    (round_mono f 1 (2 ^ low f) a c (pow_pos (low f)) C (rw one-mul h)))
