-- `binary64_bits::is_nan_bits` meets its contract.
use mathlib.Core.Path.{sym}
use lib.Ieee.{binary64}
use lib.Ieee.Bits.{nan_bits_above}
use Rattle.binary64_bits.proofs.is_nan_bits.Goals as goal

pub returns : goal.returns
returns c = sym (nan_bits_above binary64 c.args.bits)
