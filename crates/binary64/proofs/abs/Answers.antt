-- `binary64::abs` meets its contract: without its highest bit the pattern is that of the magnitude. Assumes nothing.
use mathlib.Core.Path.{ap, sym, subst, ◌∙◌}
use mathlib.Core.Bool.{not}
use Prim.Native.Nat.{ℕ}
use borrow.Author.Rules.{rules}
use lib.Dec.{T}
use lib.Ieee.{binary64, of_bits, nan_bits}
use lib.Ieee.Bits.{of_bits-to_bits}
use Rattle.binary64.specs.Doubles.{magnitude}
use Rattle.binary64.proofs.Tests.{is_nan_lem, is_real}
use Rattle.binary64.proofs.Units.{Good}
use Rattle.binary64.proofs.Patterns.{bits_no_nan}
use Rattle.binary64.proofs.Magnitudes.{magnitude64, magnitude_good}
use Rattle.binary64.proofs.abs.Goals as goal

good : (c : goal.Else-is_nan) → Good binary64 c.args.x
good c = (search rules, is_real c.args.x (sym c.is_nan.ensures.value ∙ c.if-is_nan.false))

pub float_from_bits-result : goal.float_from_bits-result
float_from_bits-result c = let x = c.args.x in
    subst (λ (n : ℕ). T (not (nan_bits binary64 n))) (sym (magnitude64 x (good c))) (bits_no_nan binary64 (magnitude x) (magnitude_good binary64 x (good c)))

pub returns : goal.returns
returns c = let x = c.args.x in
    ap (of_bits binary64) (magnitude64 x (good c)) ∙ of_bits-to_bits binary64 (magnitude x) (magnitude_good binary64 x (good c)).0

pub returns-then-is_nan : goal.returns-then-is_nan
unfolding magnitude
returns-then-is_nan c = rw (is_nan_lem c.args.x (sym c.is_nan.ensures.value ∙ c.if-is_nan.true))

pub float_to_bits-result : goal.float_to_bits-result
unfolding magnitude
float_to_bits-result c = (good c).1
