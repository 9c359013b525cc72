-- What an accepted candidate stands for. Definitions only.
use Rattle.std.specs.Prelude.{List, ℕ, take, Float}
use Rattle.cycle.specs.Closed.{SteadyState}
use Rattle.periodic_acceptance.specs.declared.Acceptance.{Acceptance}

-- the candidate a of n states, with its residuals and the greatest scaled one
abbrev pub state_of : ℕ → List Float → Acceptance → SteadyState
state_of n a r = record { amounts = take n a; residuals = take n r.residuals; maximum = r.maximum }
