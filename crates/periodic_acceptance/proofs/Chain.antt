-- The acceptance of a candidate, test by test.
use mathlib.Core.Path.{◌≡◌}
use mathlib.Core.Bool.{true, false}
use mathlib.Core.List.{List}
use Prim.Native.Nat.{ℕ}
use lib.Ieee.{Float}
use Rattle.binary64.specs.Doubles.{plus_zero, nonnegative}
use Rattle.binary64.specs.Lists.{all}
use Rattle.protocol.specs.Execute.{Propagator}
use Rattle.protocol.specs.declared.Event.{Event}
use Rattle.protocol.specs.declared.Window.{Window}
use Rattle.cycle.specs.declared.SteadyStateTolerance.{SteadyStateTolerance}
use Rattle.cycle.specs.Closed.{stopped, got, then, last_of, checked_maximum_to, residuals_of, accepted}

-- ---- the candidate
module _ (advance : Propagator) (n : ℕ) (w : Window) (tol : SteadyStateTolerance) (fs : List Event) (a : List Float) where
  pub candidate-stops : all nonnegative a ≡ false → stopped 34 plus_zero ≡ accepted advance n w tol fs a
  unfolding accepted
  candidate-stops h = rw h

  module _ (h : all nonnegative a ≡ true) where
    pub run-stops : {c : ℕ} {t : Float} → stopped c t ≡ last_of advance n w fs a → stopped c t ≡ accepted advance n w tol fs a
    unfolding accepted
    run-stops e = rw (h, ← e)

    pub run_ends : {e : List Float} → got e ≡ last_of advance n w fs a
        → then (checked_maximum_to tol a e n) (λ m. got (record { amounts = a; residuals = residuals_of n a e; maximum = m })) ≡ accepted advance n w tol fs a
    unfolding accepted
    run_ends e = rw (h, ← e)
