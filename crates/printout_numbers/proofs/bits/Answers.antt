-- `printout_numbers::bits` meets its contract.
use mathlib.Core.Path.{◌≡◌, refl, sym, ◌∙◌}
use mathlib.Core.Bool.{true}
use lib.Ieee.{Float, nan, inf, fin, is_nan, to_bits}
use Rattle.printout_numbers.specs.Digits.{bits_of}
use Rattle.printout_numbers.proofs.bits.Goals as goal

one_nan : (x : Float) → is_nan x ≡ true → 0x7ff8000000000000 ≡ bits_of x
unfolding is_nan bits_of to_bits
one_nan nan e = refl
one_nan (inf s) e = absurd (cc)
one_nan (fin s m x) e = absurd (cc)

pub returns-then-is_nan : goal.returns-then-is_nan
returns-then-is_nan c = one_nan c.args.x (sym c.is_nan.ensures.value ∙ c.if-is_nan.true)
