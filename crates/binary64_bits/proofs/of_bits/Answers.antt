-- `binary64_bits::of_bits` meets its contract: 0 / 0 stands for a NaN's pattern.
use mathlib.Core.Path.{◌≡◌, refl, sym, subst, ◌∙◌}
use mathlib.Core.Bool.{true}
use lib.Dec.{T}
use lib.Ieee.{Float, nan, inf, fin, binary64, is_nan, of_bits, div}
use lib.Ieee.Bits.{nan_bits_is}
use Rattle.binary64_bits.proofs.of_bits.Goals as goal

nan_is : (x : Float) → is_nan x ≡ true → nan ≡ x
unfolding is_nan
nan_is nan e = refl
nan_is (inf s) e = absurd (subst T (sym e) tt)
nan_is (fin s m k) e = absurd (subst T (sym e) tt)

pub returns-then-is_nan_bits : goal.returns-then-is_nan_bits
unfolding div of_bits
returns-then-is_nan_bits c =
    let bits = c.args.bits in
    nan_is (of_bits binary64 bits) (sym (nan_bits_is binary64 bits) ∙ sym c.is_nan_bits.ensures ∙ c.if-is_nan_bits.true)
