-- The value of a pattern in units of 2 ^ -1074, the remainder of two values by that of their units, and a value that is a whole number times a
-- power of two. Assumes nothing.
use mathlib.Core.Path.{◌≡◌, refl, sym, ap, ap₂, ◌∙◌, subst}
use Prim.Native.Nat.{ℕ, zero, suc, ◌+◌, ◌-◌, ◌*◌, ◌/◌, ◌%◌, ◌^◌, ◌≤◌, ◌<◌}
use native.Mathlib.Nat.{lt_irrefl, mul_comm, mul_assoc, mul_right_comm, mul-pos, mod-lt, mod-eq_of_lt, mul-add-mod_self_left, mul-lt-mul_of_pos_right, add-mul, mul-add, add-mod, zero-mod, two-pow-succ, div-add-mod, one-mul, mul-one, zero-mul, mul-div_cancel, mul-mod_left, sub-add_cancel, lt_of_lt_of_le, mul-le-mul_right}
use native.Mathlib.Omega.{arith}
use mathlib.Core.Bool.{Bool, true, false, not, cond}
use lib.IntN.{pos}
use lib.Dec.{T, not_T, leb, ltb, eqb, lt→ltb, ltb→lt, leb→le, le→leb, eqb→eq}
use lib.Pow.{pow-add, pow_pos, pow-lt, pow_mono, shl_lt, shl_exact, mod-mod-pow}
use lib.Ieee.{Float, nan, inf, fin, binary64, low, emax, up, down, odd, rem, mul, round, units, of_int, of_bits, to_bits, of_fields, neg, div, fits, is_nan}
use lib.Ieee.Fits.{down_pos, up_pos}
use lib.Ieee.Exact.{HasValue, odd_sign}
use lib.Ieee.Scale.{round_same, finite}
use lib.Ieee.Bits.{of_bits-to_bits, is_true, is_false}
use Rattle.std.proofs.lemmas.Bool.{cond-true, cond-false}
use lib.Bits.{and_mask}
use Rattle.binary64.proofs.Magnitudes.{finite64}
use lib.Ieee.Positive.{first_pos, positive_of_value, mul_at}
use lib.Ieee.Back.{round_whole}
use Rattle.binary64_remainder.specs.Patterns.{digits_of, shift_of, units_of}

-- ---- a remainder of multiples
pub scale_mod : (a b c : ℕ) → 0 < b → 0 < c → a * c % (b * c) ≡ a % b * c
scale_mod a b c B C =
    ap (λ (x : ℕ). x % (b * c)) (ap (λ (x : ℕ). x * c) (sym (div-add-mod a b)) ∙ add-mul (b * (a / b)) (a % b) c ∙ ap (λ (x : ℕ). x + a % b * c) (mul_right_comm b (a / b) c))
    ∙ mul-add-mod_self_left (b * c) (a / b) (a % b * c)
    ∙ mod-eq_of_lt (mul-lt-mul_of_pos_right (mod-lt a B) C)

common : (s : Bool) (a b c u v : ℕ) → 0 < c → 0 < v → a * 2 ^ 1074 ≡ u * c → b * 2 ^ 1074 ≡ v * c
    → round binary64 s (a % b) c ≡ round binary64 s (u % v) (2 ^ 1074)
common s a b c u v C V h k =
    round_same binary64 s (a % b) c (u % v) (2 ^ 1074) C (pow_pos 1074)
    (sym (scale_mod a b (2 ^ 1074) (first_pos b (2 ^ 1074) (subst (λ (x : ℕ). 0 < x) (sym k) (mul-pos V C))) (pow_pos 1074))
    ∙ ap₂ (λ (x y : ℕ). x % y) h k
    ∙ scale_mod u v c V C)

not_zero : (n : ℕ) → 0 < n → T (not (eqb n 0))
not_zero n h = not_T (eqb n 0) (λ t. lt_irrefl 0 (subst (λ (x : ℕ). 0 < x) (eqb→eq n 0 t) h))

pub rem_value : (x y : Float) (s t : Bool) (u v : ℕ) → HasValue x s u (2 ^ 1074) → HasValue y t v (2 ^ 1074) → 0 < v
    → rem binary64 x y ≡ round binary64 s (u % v) (2 ^ 1074)
unfolding rem
rem_value nan y s t u v h k V = absurd h
rem_value (inf r) y s t u v h k V = absurd h
rem_value (fin r m e) nan s t u v h k V = absurd k
rem_value (fin r m e) (inf w) s t u v h k V = absurd k
rem_value (fin r m e) (fin w n d) s t u v h k V =
    let a = m * up e * down d in
    let b = n * up d * down e in
    let c = down e * down d in
    cond-false (eqb n 0) nan (round binary64 r (a % b) c) (is_false (eqb n 0) (not_zero n (first_pos n (up d) (first_pos (n * up d) (2 ^ 1074) (subst (λ (x : ℕ). 0 < x) (sym k.1) (mul-pos V (down_pos d)))))))
    ∙ ap (λ (z : Bool). round binary64 z (a % b) c) h.0
    ∙ common s a b c u v (mul-pos (down_pos e) (down_pos d)) V
    (mul_right_comm (m * up e) (down d) (2 ^ 1074) ∙ ap (λ (x : ℕ). x * down d) h.1 ∙ mul_assoc u (down e) (down d))
    (mul_right_comm (n * up d) (down e) (2 ^ 1074) ∙ ap (λ (x : ℕ). x * down e) k.1 ∙ mul_assoc v (down d) (down e) ∙ ap (λ (x : ℕ). v * x) (mul_comm (down d) (down e)))

-- ---- the units of a pattern
pub units_low : (p : ℕ) → p < 2 ^ 52 → units_of p ≡ p
units_low p h =
    ap (λ (x : ℕ). x * 2 ^ shift_of p) (cond-true (ltb p (2 ^ 52)) p (2 ^ 52 + p % 2 ^ 52) (is_true (ltb p (2 ^ 52)) (lt→ltb p (2 ^ 52) h)))
    ∙ ap (λ (x : ℕ). p * 2 ^ x) (none p h)
    ∙ mul-one p
  where
    none : (p : ℕ) → p < 0x10_0000_0000_0000 → p / 0x10_0000_0000_0000 - 1 ≡ 0
    none p h = omega arith

pub digits_high : (p : ℕ) → 2 ^ 52 ≤ p → digits_of p ≡ 2 ^ 52 + p % 2 ^ 52
digits_high p h =
    cond-false (ltb p (2 ^ 52)) p (2 ^ 52 + p % 2 ^ 52)
    (is_false (ltb p (2 ^ 52)) (not_T (ltb p (2 ^ 52)) (λ t. lt_irrefl p (lt_of_lt_of_le (ltb→lt p (2 ^ 52) t) h))))

pub units_high : (p x : ℕ) → p / 2 ^ 52 ≡ suc x → units_of p ≡ (2 ^ 52 + p % 2 ^ 52) * 2 ^ x
units_high p x e =
    ap₂ (λ (y z : ℕ). y * 2 ^ z) (digits_high p (reaches p x e)) (ap (λ (y : ℕ). y - 1) e ∙ back x)
  where
    reaches : (p x : ℕ) → p / 0x10_0000_0000_0000 ≡ suc x → 0x10_0000_0000_0000 ≤ p
    reaches p x e = omega arith

    back : (x : ℕ) → suc x - 1 ≡ x
    back x = omega arith

-- ---- the value of a pattern
fields : (s : Bool) (p : ℕ) → p < 0x7ff0_0000_0000_0000 → HasValue (of_fields binary64 s (p / 2 ^ 52) (p % 2 ^ 52)) s (units_of p) (2 ^ 1074)
unfolding of_fields
fields s p h = go (p / 2 ^ 52) refl
  where
    t : ℕ
    t = p % 2 ^ 52

    short : (p : ℕ) → p / 0x10_0000_0000_0000 ≡ 0 → p < 0x10_0000_0000_0000
    short p e = omega arith

    below_top : (p x : ℕ) → p < 0x7ff0_0000_0000_0000 → p / 0x10_0000_0000_0000 ≡ x → x < 2047
    below_top p x h e = omega arith

    apart : (x : ℕ) → x < 2047 → x ≡ 2047 → ⊥
    apart x h e = omega arith

    go : (x : ℕ) → p / 2 ^ 52 ≡ x → HasValue (of_fields binary64 s x t) s (units_of p) (2 ^ 1074)
    go zero e =
        let l = short p e in
        subst (λ (u : ℕ). HasValue (odd 53 s t 0 1074) s u (2 ^ 1074)) (mul-one t ∙ mod-eq_of_lt l ∙ sym (units_low p l)) (odd_sign 53 s t 0 1074)
    go (suc x) e =
        let v = odd 53 s (2 ^ 52 + t) x 1074 in
        subst (λ (z : Float). HasValue z s (units_of p) (2 ^ 1074))
        (sym (cond-false (eqb (suc x) 2047) (cond (eqb t 0) (inf s) nan) v
        (is_false (eqb (suc x) 2047) (not_T (eqb (suc x) 2047) (λ q. apart (suc x) (below_top p (suc x) h e) (eqb→eq (suc x) 2047 q))))))
        (subst (λ (u : ℕ). HasValue v s u (2 ^ 1074)) (sym (units_high p x e)) (odd_sign 53 s (2 ^ 52 + t) x 1074))

pub pattern : (b : ℕ) → b % 2 ^ 63 < 0x7ff0_0000_0000_0000 → HasValue (of_bits binary64 b) (leb (2 ^ 63) b) (units_of (b % 2 ^ 63)) (2 ^ 1074)
unfolding of_bits
pattern b h =
    subst (λ (t : ℕ). HasValue (of_fields binary64 (leb (2 ^ 63) b) (b % 2 ^ 63 / 2 ^ 52) t) (leb (2 ^ 63) b) (units_of (b % 2 ^ 63)) (2 ^ 1074))
    (mod-mod-pow b 11 52) (fields (leb (2 ^ 63) b) (b % 2 ^ 63) h)

-- ---- r times a power of two
plain : (p : ℕ) → p < 0x7ff0_0000_0000_0000 → p < 0x8000_0000_0000_0000
plain p h = omega arith

pub unsigned : (p : ℕ) → p < 2 ^ 63 → leb (2 ^ 63) p ≡ false
unsigned p h = is_false (leb (2 ^ 63) p) (not_T (leb (2 ^ 63) p) (λ t. lt_irrefl p (lt_of_lt_of_le h (leb→le (2 ^ 63) p t))))

pub pattern_value : (p u : ℕ) → p < 0x7ff0_0000_0000_0000 → units_of p ≡ u → HasValue (of_bits binary64 p) false u (2 ^ 1074)
pattern_value p u h e =
    subst (λ (z : ℕ). HasValue (of_bits binary64 p) false z (2 ^ 1074)) (ap units_of (mod-eq_of_lt (plain p h)) ∙ e)
    (subst (λ (s : Bool). HasValue (of_bits binary64 p) s (units_of (p % 2 ^ 63)) (2 ^ 1074)) (unsigned p (plain p h))
    (pattern p (subst (λ (z : ℕ). z < 0x7ff0_0000_0000_0000) (sym (mod-eq_of_lt (plain p h))) h)))

pub scaled_is : (r k p : ℕ) → 0 < r → r ≤ 2 ^ 53 → units_of p ≡ 2 ^ k → p < 0x7ff0_0000_0000_0000
    → mul binary64 (of_int binary64 (pos r)) (of_bits binary64 p) ≡ round binary64 false (r * 2 ^ k) (2 ^ 1074)
unfolding of_int
scaled_is r k p a b e h =
    let x = round binary64 false r 1 in
    let y = of_bits binary64 p in
    let vx : HasValue x false r 1 = round_whole binary64 false r b in
    let vy : HasValue y false (2 ^ k) (2 ^ 1074) = pattern_value p (2 ^ k) h e in
    mul_at binary64 x y r 1 (2 ^ k) (2 ^ 1074) (positive_of_value x r 1 vx a) (positive_of_value y (2 ^ k) (2 ^ 1074) vy (pow_pos k)) (pow_pos 0) (pow_pos 1074) vx vy
    ∙ ap (λ (z : ℕ). round binary64 false (r * 2 ^ k) z) (one-mul (2 ^ 1074))

-- ---- the pattern of a power of two
pub small_power : (k : ℕ) → k < 52 → 1 * 2 ^ k % 2 ^ 64 ≡ 2 ^ k
small_power k h = shl_exact 1 k 64 (pow-lt (one_up 0)) (fits k h) ∙ one-mul (2 ^ k)
  where
    one_up : (n : ℕ) → n < suc n
    one_up n = omega arith

    fits : (k : ℕ) → k < 52 → 1 + k ≤ 64
    fits k h = omega arith

pub small_power_units : (k : ℕ) → k < 52 → units_of (1 * 2 ^ k % 2 ^ 64) ≡ 2 ^ k
small_power_units k h = ap units_of (small_power k h) ∙ units_low (2 ^ k) (pow-lt h)

pub small_power_within : (k : ℕ) → k < 52 → 1 * 2 ^ k % 2 ^ 64 < 0x7ff0_0000_0000_0000
small_power_within k h = go (1 * 2 ^ k % 2 ^ 64) (2 ^ k) (small_power k h) (pow-lt h)
  where
    go : (a b : ℕ) → a ≡ b → b < 0x10_0000_0000_0000 → a < 0x7ff0_0000_0000_0000
    go a b e l = omega arith

pub power_units : (k : ℕ) → 52 ≤ k → units_of ((k - 51) * 2 ^ 52) ≡ 2 ^ k
power_units k h =
    units_high ((k - 51) * 2 ^ 52) (k - 52) (mul-div_cancel (k - 51) (pow_pos 52) ∙ next k h)
    ∙ ap (λ (x : ℕ). (2 ^ 52 + x) * 2 ^ (k - 52)) (mul-mod_left (k - 51) (2 ^ 52))
    ∙ sym (pow-add 2 52 (k - 52))
    ∙ ap (λ (x : ℕ). 2 ^ x) (whole k h)
  where
    next : (k : ℕ) → 52 ≤ k → k - 51 ≡ suc (k - 52)
    next k h = omega arith

    whole : (k : ℕ) → 52 ≤ k → 52 + (k - 52) ≡ k
    whole k h = omega arith

-- ---- the remainder of two patterns
pub digits_le : (b : ℕ) → digits_of b < 2 ^ 53
digits_le b = go (ltb b (2 ^ 52)) refl
  where
    high : (b : ℕ) → 0x10_0000_0000_0000 + b % 0x10_0000_0000_0000 < 0x20_0000_0000_0000
    high b = omega arith

    low : (b : ℕ) → b < 0x10_0000_0000_0000 → b < 0x20_0000_0000_0000
    low b h = omega arith

    go : (t : Bool) → ltb b (2 ^ 52) ≡ t → cond t b (2 ^ 52 + b % 2 ^ 52) < 2 ^ 53
    go true e = low b (ltb→lt b (2 ^ 52) (subst T (sym e) tt))
    go false e = high b

pub digits_pos : (b : ℕ) → 0 < b → 0 < digits_of b
digits_pos b h = go (ltb b (2 ^ 52))
  where
    high : (b : ℕ) → 0 < 0x10_0000_0000_0000 + b % 0x10_0000_0000_0000
    high b = omega arith

    go : (t : Bool) → 0 < cond t b (2 ^ 52 + b % 2 ^ 52)
    go true = h
    go false = high b

pub units_pos : (b : ℕ) → 0 < b → 0 < units_of b
units_pos b h = mul-pos (digits_pos b h) (pow_pos (shift_of b))

-- a pattern of a smaller shift has fewer units
pub fewer_units : (a b : ℕ) → shift_of a < shift_of b → units_of a < units_of b
fewer_units a b h =
    lt_of_lt_of_le (shl_lt 53 (shift_of a) (digits_le a))
    (lt_of_le (pow_mono (step (shift_of a) (shift_of b) h)))
  where
    step : (j k : ℕ) → j < k → 53 + j ≤ 52 + k
    step j k h = omega arith

    reaches : (b k : ℕ) → b / 0x10_0000_0000_0000 - 1 ≡ k → 0 < k → 0x10_0000_0000_0000 ≤ b
    reaches b k e h = omega arith

    above : (j k : ℕ) → j < k → 0 < k
    above j k h = omega arith

    lead : 2 ^ 52 ≤ digits_of b
    lead = subst (λ (x : ℕ). 2 ^ 52 ≤ x) (sym (digits_high b (reaches b (shift_of b) refl (above (shift_of a) (shift_of b) h)))) (more (b % 2 ^ 52))
      where
        more : (x : ℕ) → 0x10_0000_0000_0000 ≤ 0x10_0000_0000_0000 + x
        more x = omega arith

    lt_of_le : 2 ^ (53 + shift_of a) ≤ 2 ^ (52 + shift_of b) → 2 ^ (53 + shift_of a) ≤ units_of b
    lt_of_le h = native.Mathlib.Nat.le_trans h (subst (λ (x : ℕ). x ≤ units_of b) (sym (pow-add 2 52 (shift_of b))) (mul-le-mul_right (2 ^ shift_of b) lead))

pub aligned : (a b : ℕ) → shift_of b ≤ shift_of a → 0 < b
    → digits_of a * 2 ^ (shift_of a - shift_of b) % digits_of b * 2 ^ shift_of b ≡ units_of a % units_of b
aligned a b h p =
    sym (scale_mod (digits_of a * 2 ^ (shift_of a - shift_of b)) (digits_of b) (2 ^ shift_of b) (digits_pos b p) (pow_pos (shift_of b)))
    ∙ ap (λ (x : ℕ). x % units_of b)
    (mul_assoc (digits_of a) (2 ^ (shift_of a - shift_of b)) (2 ^ shift_of b)
    ∙ ap (λ (x : ℕ). digits_of a * x) (sym (pow-add 2 (shift_of a - shift_of b) (shift_of b)) ∙ ap (λ (x : ℕ). 2 ^ x) (sub-add_cancel h)))

-- ---- zero, and the sign
pub zero_is : (u : ℕ) → 0 ≡ u → of_bits binary64 0 ≡ round binary64 false u (2 ^ 1074)
unfolding of_bits round
zero_is u e = subst (λ (x : ℕ). of_bits binary64 0 ≡ round binary64 false x (2 ^ 1074)) e refl

neg_odd : (d q k l : ℕ) → neg (odd d false q k l) ≡ odd d true q k l
unfolding neg odd
neg_odd d zero k l = refl
neg_odd d (suc q) k l = refl

neg_inf : neg (inf false) ≡ inf true
unfolding neg
neg_inf = refl

neg_units : (q k : ℕ) → neg (units binary64 false q k) ≡ units binary64 true q k
unfolding units
neg_units q k = go (ltb (q * 2 ^ k) (2 ^ (low binary64 + suc (emax binary64))))
  where
    go : (b : Bool) → neg (cond b (odd 54 false q k 1074) (inf false)) ≡ cond b (odd 54 true q k 1074) (inf true)
    go true = neg_odd 54 q k 1074
    go false = neg_inf

pub neg_round : (u : ℕ) → neg (round binary64 false u (2 ^ 1074)) ≡ round binary64 true u (2 ^ 1074)
unfolding round
neg_round u = neg_units _ _

-- ---- one doubling
pub twice : (left r i q : ℕ) → left ≡ r * 2 ^ i % q → (left + left) % q ≡ r * 2 ^ (i + 1) % q
twice left r i q h =
    ap (λ (x : ℕ). (x + x) % q) h ∙ sym (add-mod (r * 2 ^ i) (r * 2 ^ i) q)
    ∙ ap (λ (x : ℕ). x % q) (sym (mul-add r (2 ^ i) (2 ^ i)) ∙ ap (λ (x : ℕ). r * x) (sym (two-pow-succ i)) ∙ ap (λ (x : ℕ). r * 2 ^ x) (next i))
  where
    next : (n : ℕ) → suc n ≡ n + 1
    next n = omega arith

-- ---- the four ends of the remainder of two patterns
module _ (a b j k : ℕ) (ej : j ≡ shift_of a) (ek : k ≡ shift_of b) where
  pub nothing_left : (r : ℕ) → r ≡ digits_of a → r ≡ 0 → of_bits binary64 0 ≡ round binary64 false (units_of a % units_of b) (2 ^ 1074)
  nothing_left r er z =
      zero_is (units_of a % units_of b)
      (sym (ap (λ (x : ℕ). x * 2 ^ shift_of a % units_of b) (sym er ∙ z) ∙ ap (λ (x : ℕ). x % units_of b) (zero-mul (2 ^ shift_of a)) ∙ zero-mod (units_of b)))

  pub all_left : (r : ℕ) (z : Float) → j < k → r ≡ digits_of a → z ≡ round binary64 false (r * 2 ^ j) (2 ^ 1074)
      → z ≡ round binary64 false (units_of a % units_of b) (2 ^ 1074)
  all_left r z l er ez =
      ez ∙ ap (λ (u : ℕ). round binary64 false u (2 ^ 1074))
      (ap₂ (λ (x y : ℕ). x * 2 ^ y) er ej
      ∙ sym (mod-eq_of_lt (fewer_units a b (subst (λ (y : ℕ). shift_of a < y) ek (subst (λ (x : ℕ). x < k) ej l)))))

  module _ (d q r : ℕ) (P : 0 < b) (l : k ≤ j) (ed : d ≡ digits_of a) (eq : q ≡ digits_of b) (er : r ≡ d * 2 ^ (j - k) % q) where
    units_left : r * 2 ^ k ≡ units_of a % units_of b
    units_left =
        ap₂ (λ (x y : ℕ). x * 2 ^ y)
        (er ∙ ap₂ (λ (x y : ℕ). x % y) (ap₂ (λ (x y : ℕ). x * 2 ^ y) ed (ap₂ (λ (x y : ℕ). x - y) ej ek)) eq) ek
        ∙ aligned a b (subst (λ (y : ℕ). shift_of b ≤ y) ej (subst (λ (x : ℕ). x ≤ j) ek l)) P

    pub divided : r ≡ 0 → of_bits binary64 0 ≡ round binary64 false (units_of a % units_of b) (2 ^ 1074)
    divided z = zero_is (units_of a % units_of b) (sym (ap (λ (x : ℕ). x * 2 ^ k) z ∙ zero-mul (2 ^ k)) ∙ units_left)

    pub part_left : (z : Float) → z ≡ round binary64 false (r * 2 ^ k) (2 ^ 1074) → z ≡ round binary64 false (units_of a % units_of b) (2 ^ 1074)
    part_left z ez = ez ∙ ap (λ (u : ℕ). round binary64 false u (2 ^ 1074)) units_left

-- ---- where one is not finite
pub no_number : (x y : Float) → finite x ≡ false → div binary64 (of_bits binary64 0) (of_bits binary64 0) ≡ rem binary64 x y
unfolding div of_bits rem
no_number nan y h = refl
no_number (inf s) y h = refl
no_number (fin s m e) y h = absurd (subst T h tt)

pub by_no_number : (x y : Float) → y ≡ nan → y ≡ rem binary64 x y
unfolding rem
by_no_number x y e = e ∙ sym (ap (rem binary64 x) e ∙ go x)
  where
    go : (x : Float) → rem binary64 x nan ≡ nan
    go nan = refl
    go (inf s) = refl
    go (fin s m e) = refl

pub by_infinity : (x y : Float) → finite x ≡ true → finite y ≡ false → T (not (is_nan y)) → x ≡ rem binary64 x y
unfolding rem is_nan
by_infinity nan y h k n = absurd (subst T (sym h) tt)
by_infinity (inf s) y h k n = absurd (subst T (sym h) tt)
by_infinity (fin s m e) nan h k n = absurd n
by_infinity (fin s m e) (inf t) h k n = refl
by_infinity (fin s m e) (fin t n d) h k g = absurd (subst T k tt)

pub is_number : (x : Float) → finite x ≡ true → T (not (is_nan x))
unfolding is_nan
is_number nan h = absurd (subst T (sym h) tt)
is_number (inf s) h = tt
is_number (fin s m e) h = tt

-- ---- where both are
pub below_infinity : (x : Float) → T (fits binary64 x) → finite x ≡ true → to_bits binary64 x % 2 ^ 63 < 0x7ff0_0000_0000_0000
below_infinity x p h =
    ltb→lt (to_bits binary64 x % 2 ^ 63) 0x7ff0_0000_0000_0000
    (subst T (sym (ap (λ (b : ℕ). ltb b 0x7ff0_0000_0000_0000) (sym (and_mask (to_bits binary64 x) 63)) ∙ finite64 x (p, is_number x h) ∙ h)) tt)

value_of : (x : Float) → T (fits binary64 x) → finite x ≡ true → HasValue x (leb (2 ^ 63) (to_bits binary64 x)) (units_of (to_bits binary64 x % 2 ^ 63)) (2 ^ 1074)
value_of x p h =
    subst (λ (z : Float). HasValue z (leb (2 ^ 63) (to_bits binary64 x)) (units_of (to_bits binary64 x % 2 ^ 63)) (2 ^ 1074)) (of_bits-to_bits binary64 x p)
    (pattern (to_bits binary64 x) (below_infinity x p h))

zero_value : (y : Float) (t : Bool) → HasValue y t 0 (2 ^ 1074) → (x : Float) → finite x ≡ true → div binary64 (of_bits binary64 0) (of_bits binary64 0) ≡ rem binary64 x y
unfolding div of_bits rem
zero_value y t k nan h = refl
zero_value y t k (inf s) h = refl
zero_value nan t k (fin s m e) h = absurd k
zero_value (inf w) t k (fin s m e) h = absurd k
zero_value (fin w zero d) t k (fin s m e) h = refl
zero_value (fin w (suc n) d) t k (fin s m e) h =
    absurd (lt_irrefl 0 (subst (λ (x : ℕ). 0 < x) (k.1 ∙ zero-mul (down d)) (mul-pos (mul-pos (positive_suc n) (up_pos d)) (pow_pos 1074))))
  where
    positive_suc : (n : ℕ) → 0 < suc n
    positive_suc n = omega arith

pub by_zero : (x y : Float) → T (fits binary64 y) → finite x ≡ true → finite y ≡ true → to_bits binary64 y % 2 ^ 63 ≡ 0
    → div binary64 (of_bits binary64 0) (of_bits binary64 0) ≡ rem binary64 x y
by_zero x y q h k e =
    zero_value y (leb (2 ^ 63) (to_bits binary64 y))
    (subst (λ (u : ℕ). HasValue y (leb (2 ^ 63) (to_bits binary64 y)) u (2 ^ 1074)) (ap units_of e ∙ units_low 0 (pow_pos 52)) (value_of y q k)) x h

module _ (x y r : Float) (p : T (fits binary64 x)) (q : T (fits binary64 y)) (h : finite x ≡ true) (k : finite y ≡ true) (P : 0 < to_bits binary64 y % 2 ^ 63)
    (er : r ≡ round binary64 false (units_of (to_bits binary64 x % 2 ^ 63) % units_of (to_bits binary64 y % 2 ^ 63)) (2 ^ 1074)) where
  abbrev u : ℕ
  u = units_of (to_bits binary64 x % 2 ^ 63) % units_of (to_bits binary64 y % 2 ^ 63)

  both : rem binary64 x y ≡ round binary64 (leb (2 ^ 63) (to_bits binary64 x)) u (2 ^ 1074)
  both =
      rem_value x y (leb (2 ^ 63) (to_bits binary64 x)) (leb (2 ^ 63) (to_bits binary64 y)) (units_of (to_bits binary64 x % 2 ^ 63))
      (units_of (to_bits binary64 y % 2 ^ 63)) (value_of x p h) (value_of y q k) (units_pos (to_bits binary64 y % 2 ^ 63) P)

  pub above_zero : to_bits binary64 x < 2 ^ 63 → r ≡ rem binary64 x y
  above_zero l = er ∙ sym (both ∙ ap (λ (s : Bool). round binary64 s u (2 ^ 1074)) (unsigned (to_bits binary64 x) l))

  pub below_zero : 2 ^ 63 ≤ to_bits binary64 x → neg r ≡ rem binary64 x y
  below_zero l = ap neg er ∙ neg_round u ∙ sym (both ∙ ap (λ (s : Bool). round binary64 s u (2 ^ 1074)) (signed (leb (2 ^ 63) (to_bits binary64 x)) (le→leb (2 ^ 63) (to_bits binary64 x) l)))
    where
      signed : (b : Bool) → T b → b ≡ true
      signed true t = refl
      signed false t = absurd t
