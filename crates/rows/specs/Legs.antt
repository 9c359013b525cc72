-- What a leg of a run has: how its kernel moves amounts, and its rates. Definitions only.
use Rattle.std.specs.Prelude.{take, List, Float}
use Rattle.protocol.specs.Execute.{Propagator}
use Rattle.rows.specs.Standing.{kernel_advance}
use Rattle.rows.specs.declared.Leg.{Leg}

abbrev pub moves : Leg → Propagator
moves leg = kernel_advance leg.kernel leg.n

abbrev pub rates_of : Leg → List Float
rates_of leg = take leg.n leg.rates
