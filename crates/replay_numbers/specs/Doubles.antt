-- When a double has a pattern. Definitions only.
use Rattle.std.specs.Prelude.{ℕ, Bool, cond, eqb, Float}
use Rattle.std.specs.Float.{binary64}
use Rattle.std.specs.Float.Ieee.{is_nan, nan_bits, to_bits}

-- x's pattern is b; every NaN has every NaN's pattern
unfoldable pub same_bits : Float → ℕ → Bool
unfolding is_nan nan_bits to_bits
same_bits x b = cond (is_nan x) (nan_bits binary64 b) (eqb (to_bits binary64 x) b)
