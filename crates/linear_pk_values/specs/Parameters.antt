-- 01, "Amounts and concentrations": the parameters of a kernel.
use Rattle.std.specs.Prelude.{Bool, ◌&&◌, List, Float, Option}
use Rattle.binary64.specs.Doubles.{nonnegative, positive}
use Rattle.binary64.specs.Lists.{all}
pub use Rattle.linear_pk_mammillary.specs.Rates.{depot_of, absorbed}

-- clearance finite, ≥ 0; volumes finite, above 0; exchanges finite, ≥ 0; absorption absent, or finite and ≥ 0
unfoldable pub parameters_pass : Float → List Float → List Float → Option Float → Bool
parameters_pass cl vs qs a = nonnegative cl && (all positive vs && (all nonnegative qs && nonnegative (absorbed a)))
