use native.Mathlib.Omega.{arith}
use Prim.Native.Nat.{ℕ, ◌≤◌, ◌<◌, ◌%◌}
use Rattle.std.proofs.lemmas.Float.{not_nan_f64_bits}
use Rattle.binary64_remainder.proofs.Values.{scaled_is}
use Rattle.binary64_remainder.proofs.scaled.Goals as goal

low : (p : ℕ) → p < 0x7ff0_0000_0000_0000 → p % 0x8000_0000_0000_0000 ≤ 0x7ff0_0000_0000_0000
low p h = omega arith

pub float_from_bits-result : goal.float_from_bits-result
float_from_bits-result c = not_nan_f64_bits c.power.result (low c.power.result c.power.ensures.within)

pub returns : goal.returns
returns c = scaled_is c.args.r c.args.k c.power.result c.requires.0 c.requires.1 c.power.ensures.units c.power.ensures.within
