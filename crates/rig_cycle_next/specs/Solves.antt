-- A closed cycle that is solved, by what the two slices hold. Definitions only.
use Rattle.std.specs.Prelude.{◌≡◌, List, Float}
use Rattle.cycle.specs.Closed.{Timed, got, SteadyState}

pub record Solves (o : Timed SteadyState) (amounts residual : List Float) : Type 0 where
  pub maximum : Float
  pub solved : o ≡ got (record { amounts = amounts; residuals = residual; maximum = maximum })
