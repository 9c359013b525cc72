-- |x| by its bits, and whether x is finite by the bits of |x|. Assumes nothing.
use mathlib.Core.Path.{◌≡◌, refl, sym, ap, ◌∙◌}
use Prim.Native.Nat.{ℕ, zero, suc, ◌≤◌}
use native.Mathlib.Nat.{le_of_eq, le_of_lt, le_antisymm, lt_of_lt_of_le, lt_of_not-le, lt_irrefl, le_of_suc-le-suc, zero-add}
use mathlib.Core.Bool.{false, not}
use lib.Dec.{T, ltb, ltb→lt, lt→ltb, not_T}
use lib.Bits.{bit_and, and_mask}
use lib.Ieee.{Float, nan, inf, fin, Format, binary64, fits, is_nan, to_bits, of_bits}
use lib.Ieee.Scale.{overflow, finite}
use lib.Ieee.Bits.{of_bits-to_bits, is_true, is_false}
use Rattle.std.specs.Float.{float_is_finite}
use Rattle.binary64.specs.Doubles.{magnitude}
use Rattle.binary64.proofs.Units.{quanta, quanta_lt, mag, Good}
use Rattle.binary64.proofs.Patterns.{enc, enc_mono, enc_over, to_bits_mag, to_bits_mod}

pub magnitude_fits : (f : Format) (x : Float) → T (fits f x) → T (fits f (magnitude x))
unfolding magnitude fits
magnitude_fits f nan h = tt
magnitude_fits f (inf s) h = tt
magnitude_fits f (fin s zero e) h = h
magnitude_fits f (fin s (suc m) e) h = h

pub magnitude_good : (f : Format) (x : Float) → Good f x → Good f (magnitude x)
unfolding magnitude is_nan
magnitude_good f nan p = p
magnitude_good f (inf s) p = (magnitude_fits f (inf s) p.0, tt)
magnitude_good f (fin s m e) p = (magnitude_fits f (fin s m e) p.0, tt)

magnitude_bits : (f : Format) (x : Float) → T (not (is_nan x)) → to_bits f (magnitude x) ≡ enc f (mag f x)
unfolding magnitude is_nan
magnitude_bits f nan h = absurd h
magnitude_bits f (inf s) h = to_bits_mag f (inf false) tt ∙ zero-add (enc f (overflow f))
magnitude_bits f (fin s m e) h = to_bits_mag f (fin false m e) tt ∙ zero-add (enc f (quanta f m e))

-- `bits & 0x7fff_ffff_ffff_ffff`
pub magnitude64 : (x : Float) → Good binary64 x → bit_and (to_bits binary64 x) 0x7fff_ffff_ffff_ffff ≡ to_bits binary64 (magnitude x)
magnitude64 x p = and_mask (to_bits binary64 x) 63 ∙ to_bits_mod binary64 x p ∙ sym (magnitude_bits binary64 x p.1)

-- ---- one pattern, one magnitude
mag_magnitude : (f : Format) (x : Float) → mag f (magnitude x) ≡ mag f x
unfolding magnitude
mag_magnitude f nan = refl
mag_magnitude f (inf s) = refl
mag_magnitude f (fin s m e) = refl

enc_inj : (f : Format) (x y : Float) → Good f x → Good f y → enc f (mag f x) ≡ enc f (mag f y) → mag f x ≡ mag f y
enc_inj f x y p q e =
    let w : magnitude x ≡ magnitude y = sym (of_bits-to_bits f (magnitude x) (magnitude_fits f x p.0))
    ∙ ap (of_bits f) (magnitude_bits f x p.1 ∙ e ∙ sym (magnitude_bits f y q.1))
    ∙ of_bits-to_bits f (magnitude y) (magnitude_fits f y q.0) in
    sym (mag_magnitude f x) ∙ ap (mag f) w ∙ mag_magnitude f y

pub enc_le_back : (f : Format) (x y : Float) → Good f x → Good f y → enc f (mag f x) ≤ enc f (mag f y) → mag f x ≤ mag f y
enc_le_back f x y p q h = le_of_suc-le-suc (lt_of_not-le (λ (g : suc (mag f y) ≤ mag f x).
    lt_irrefl (mag f y) (lt_of_lt_of_le g (le_of_eq (enc_inj f x y p q (le_antisymm h (enc_mono f (mag f y) (mag f x) (le_of_lt g))))))))

-- ---- finite: below the pattern of an infinity
finite_enc : (f : Format) (x : Float) → Good f x → ltb (enc f (mag f x)) (enc f (overflow f)) ≡ finite x
unfolding is_nan fits
finite_enc f nan p = absurd p.1
finite_enc f (inf s) p = is_false (ltb (enc f (overflow f)) (enc f (overflow f))) (not_T (ltb (enc f (overflow f)) (enc f (overflow f)))
    (λ t. lt_irrefl (enc f (overflow f)) (ltb→lt (enc f (overflow f)) (enc f (overflow f)) t)))
finite_enc f (fin s m e) p =
    is_true (ltb (enc f (quanta f m e)) (enc f (overflow f))) (lt→ltb (enc f (quanta f m e)) (enc f (overflow f))
    (lt_of_not-le (λ (g : enc f (overflow f) ≤ enc f (quanta f m e)). lt_irrefl (quanta f m e)
    (lt_of_lt_of_le (quanta_lt f s m e p.0) (enc_le_back f (inf s) (fin s m e) (tt, tt) p g)))))

pub finite64 : (x : Float) → Good binary64 x → ltb (bit_and (to_bits binary64 x) 0x7fff_ffff_ffff_ffff) 0x7ff0_0000_0000_0000 ≡ finite x
finite64 x p =
    ap (λ (b : ℕ). ltb b 0x7ff0_0000_0000_0000) (and_mask (to_bits binary64 x) 63 ∙ to_bits_mod binary64 x p)
    ∙ ap (λ (b : ℕ). ltb (enc binary64 (mag binary64 x)) b) (sym (enc_over binary64))
    ∙ finite_enc binary64 x p

-- ---- the library's `is_finite`
pub finite_same : (x : Float) → float_is_finite x ≡ finite x
unfolding float_is_finite
finite_same nan = refl
finite_same (inf s) = refl
finite_same (fin s m e) = refl
