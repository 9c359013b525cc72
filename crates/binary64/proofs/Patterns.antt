-- What `to_bits` writes, as a number: the sign's weight plus `enc` of the magnitude in units, which rises with the magnitude. Assumes nothing.
use mathlib.Core.Path.{◌≡◌, refl, sym, ap, ◌∙◌, subst}
use Prim.Native.Nat.{ℕ, suc, ◌+◌, ◌-◌, ◌*◌, ◌/◌, ◌%◌, ◌^◌, ◌≤◌, ◌<◌, zero-le}
use native.Mathlib.Nat.{le_of_eq, le_trans, le_antisymm, lt_of_lt_of_le, lt_of_le_of_lt, lt_of_not-le, lt_irrefl, eq-or-lt_of_le, mul_comm}
use native.Mathlib.Nat.{mul-le-mul_right, suc-mul, zero-add, add_assoc, le-div_iff_mul-le, mul-div_cancel, pow-succ', lt-suc_self}
use native.Mathlib.Nat.{mul-lt-mul_of_pos_right, add-mod_left, mod-eq_of_lt}
use native.Mathlib.Omega.{arith}
use mathlib.Core.Bool.{Bool, true, false, not, cond}
use mathlib.Core.Logic.{◌⊎◌, inl, inr}
use lib.IntN.{ℤ}
use lib.Dec.{T}
use lib.Pow.{pow-add, pow_pos, pow-lt, pow_mono, shr_mono}
use lib.Ieee.{Float, nan, inf, fin, Format, prec, emax, low, size, fits, is_nan, hid, ones, top, to_bits, nan_bits}
use lib.Ieee.Digits.{size-lt, size-le, size_reaches}
use lib.Ieee.Fits.{two, kept-lt}
use lib.Ieee.Scale.{overflow}
use lib.Ieee.Bits.{of_bits-to_bits, nan_bits_is}
use Rattle.binary64.specs.Doubles.{negative}
use Rattle.binary64.proofs.Units.{quanta, mag, mag_le, Good}

unfoldable pub enc : Format → ℕ → ℕ
enc f n = (size n - prec f) * hid f + n / 2 ^ (size n - prec f)

pub to_bits_enc : (f : Format) (s : Bool) (m : ℕ) (e : ℤ) → to_bits f (fin s m e) ≡ cond s (top f) 0 + enc f (quanta f m e)
unfolding to_bits enc quanta
to_bits_enc f s m e = add_assoc (cond s (top f) 0) _ _

pub twice_hid : (f : Format) → 2 ^ prec f ≡ 2 * hid f
twice_hid f = ap (λ (x : ℕ). 2 ^ x) (back (prec f) (two f)) ∙ pow-succ' 2 (prec f - 1)
  where
    back : (p : ℕ) → 2 ≤ p → p ≡ suc (p - 1)
    back p h = omega arith

-- ---- a larger magnitude is written as a larger number
pub enc_mono : (f : Format) (a b : ℕ) → a ≤ b → enc f a ≤ enc f b
unfolding enc
enc_mono f a b h = go (eq-or-lt_of_le (fewer (size a) (size b) (prec f) (size-le a (size b) (lt_of_le_of_lt h (size-lt b)))))
  where
    j : ℕ
    j = size a - prec f

    k : ℕ
    k = size b - prec f

    fewer : (x y p : ℕ) → x ≤ y → x - p ≤ y - p
    fewer x y p h = omega arith

    in_use : (z p : ℕ) → 2 ≤ p → 0 < z - p → p - 1 + (z - p) < z
    in_use z p P h = omega arith

    high : 0 < k → hid f ≤ b / 2 ^ k
    high l =
        (le-div_iff_mul-le (pow_pos k)).1 (le_trans (le_of_eq (sym (pow-add 2 (prec f - 1) k)))
        (size_reaches b (prec f - 1 + k) (in_use (size b) (prec f) (two f) l)))

    add_left : (c : ℕ) {x y : ℕ} → x ≤ y → c + x ≤ c + y
    add_left c h = omega arith

    -- k * h and j * h with j + 1 ≤ k, as numbers that `omega` sees
    step : (jh kh h w x y : ℕ) → jh + h ≤ kh → w ≡ 2 * h → x < w → h ≤ y → jh + x ≤ kh + y
    step jh kh h w x y a b c d = omega arith

    go : (j ≡ k) ⊎ (j < k) → j * hid f + a / 2 ^ j ≤ k * hid f + b / 2 ^ k
    go (inl e) = subst (λ (x : ℕ). j * hid f + a / 2 ^ j ≤ x * hid f + b / 2 ^ x) e (add_left (j * hid f) (shr_mono j h))
    go (inr l) = step (j * hid f) (k * hid f) (hid f) (2 ^ prec f) (a / 2 ^ j) (b / 2 ^ k)
        (le_trans (le_of_eq (sym (suc-mul j (hid f)))) (mul-le-mul_right (hid f) l)) (twice_hid f) (kept-lt (prec f) a)
        (high (lt_of_le_of_lt zero-le l))

-- ---- an infinity's digits are those of the first magnitude that is too large
pub pow_lt_back : (i p : ℕ) → 2 ^ i < 2 ^ p → i < p
pow_lt_back i p h = lt_of_not-le (λ (g : p ≤ i). lt_irrefl (2 ^ i) (lt_of_lt_of_le h (pow_mono g)))

size-pow : (n : ℕ) → size (2 ^ n) ≡ suc n
size-pow n = le_antisymm (size-le (2 ^ n) (suc n) (pow-lt (lt-suc_self n))) (pow_lt_back n (size (2 ^ n)) (size-lt (2 ^ n)))

pub enc_over : (f : Format) → enc f (overflow f) ≡ ones f * hid f
unfolding enc
enc_over f =
    let n = low f + suc (emax f) in
    ap (λ (k : ℕ). k * hid f + 2 ^ n / 2 ^ k) (ap (λ (z : ℕ). z - prec f) (size-pow n) ∙ count (prec f) (emax f) (two f))
    ∙ ap (λ (x : ℕ). 2 * emax f * hid f + x / 2 ^ (2 * emax f)) (ap (λ (x : ℕ). 2 ^ x) (parts (prec f) (emax f) (two f)) ∙ pow-add 2 (prec f - 1) (2 * emax f))
    ∙ ap (λ (x : ℕ). 2 * emax f * hid f + x) (mul-div_cancel (hid f) (pow_pos (2 * emax f)))
    ∙ sym (ap (λ (x : ℕ). x * hid f) (plus_one (2 * emax f)) ∙ suc-mul (2 * emax f) (hid f))
  where
    count : (p e : ℕ) → 2 ≤ p → suc (e + p - 2 + suc e) - p ≡ 2 * e
    count p e h = omega arith

    parts : (p e : ℕ) → 2 ≤ p → e + p - 2 + suc e ≡ p - 1 + 2 * e
    parts p e h = omega arith

    plus_one : (n : ℕ) → n + 1 ≡ suc n
    plus_one n = omega arith

pub enc_lt : (f : Format) (x : Float) → T (fits f x) → enc f (mag f x) < top f
enc_lt f x h =
    lt_of_le_of_lt (enc_mono f (mag f x) (overflow f) (mag_le f x h)) (subst (λ (y : ℕ). y < top f) (sym (enc_over f))
    (subst (λ (y : ℕ). ones f * hid f < y) (mul_comm (suc (ones f)) (hid f)) (mul-lt-mul_of_pos_right (lt-suc_self (ones f))
    (pow_pos (prec f - 1)))))

-- ---- of a value that is no NaN: its sign and its magnitude
pub to_bits_mag : (f : Format) (x : Float) → T (not (is_nan x)) → to_bits f x ≡ cond (negative x) (top f) 0 + enc f (mag f x)
unfolding is_nan
to_bits_mag f nan h = absurd h
to_bits_mag f (inf s) h = of_inf ∙ ap (λ (y : ℕ). cond s (top f) 0 + y) (sym (enc_over f))
  where
    of_inf : to_bits f (inf s) ≡ cond s (top f) 0 + ones f * hid f
    of_inf = unfold to_bits in refl
to_bits_mag f (fin s m e) h = to_bits_enc f s m e

-- the pattern without its sign
pub to_bits_mod : (f : Format) (x : Float) → Good f x → to_bits f x % top f ≡ enc f (mag f x)
to_bits_mod f x p = ap (λ (b : ℕ). b % top f) (to_bits_mag f x p.1) ∙ sign_off (top f) (negative x) (enc f (mag f x)) (enc_lt f x p.0)
  where
    sign_off : (c : ℕ) (s : Bool) (E : ℕ) → E < c → (cond s c 0 + E) % c ≡ E
    sign_off c true E h = add-mod_left c E ∙ mod-eq_of_lt h
    sign_off c false E h = ap (λ (x : ℕ). x % c) (zero-add E) ∙ mod-eq_of_lt h

-- the pattern that is written for a value that is no NaN is no NaN's
pub bits_no_nan : (f : Format) (x : Float) → Good f x → T (not (nan_bits f (to_bits f x)))
bits_no_nan f x p = subst (λ (b : Bool). T (not b)) (sym (nan_bits_is f (to_bits f x) ∙ ap is_nan (of_bits-to_bits f x p.0))) p.1
