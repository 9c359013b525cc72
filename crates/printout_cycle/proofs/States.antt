-- States that close, one by one.
use mathlib.Core.Path.{◌≡◌, refl, ap}
use mathlib.Core.Bool.{Bool, ◌&&◌}
use mathlib.Core.List.{List, [], ◌∷◌}
use native.Mathlib.Omega.{arith}
use lib.ListN.{length}
use lib.Ieee.{Float}
use Rattle.std.specs.List.{list_all, zip}
use Rattle.cycle.specs.declared.SteadyStateTolerance.{SteadyStateTolerance}
use Rattle.printout_cycle.specs.Closes.{state_closes, closes}

-- the test of a state's start, end and residual
abbrev pub closes_at : SteadyStateTolerance → (Float × Float) × Float → Bool
closes_at tol p = state_closes tol p.0.0 p.0.1 p.1

pub all_close : (tol : SteadyStateTolerance) (xs ys zs : List Float) → length ys ≡ length xs → length zs ≡ length xs
    → list_all (closes_at tol) (zip (zip xs ys) zs) ≡ closes tol xs ys zs
unfolding closes
all_close tol [] ys zs h l = refl
all_close tol (x ∷ xs) [] zs h l = absurd (omega arith)
all_close tol (x ∷ xs) (y ∷ ys) [] h l = absurd (omega arith)
all_close tol (x ∷ xs) (y ∷ ys) (z ∷ zs) h l = ap (λ (b : Bool). state_closes tol x y z && b) (all_close tol xs ys zs (omega arith) (omega arith))
