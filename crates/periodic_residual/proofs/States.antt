-- One state more of the greatest scaled residual.
use mathlib.Core.Path.{◌≡◌, refl, sym, ap, ◌∙◌}
use mathlib.Core.List.{List}
use Prim.Native.Nat.{ℕ, suc, ◌+◌, ◌<◌}
use native.Mathlib.Numerals.{add-one}
use lib.Ieee.{Float}
use Rattle.matrix.specs.Matrix.{cell}
use Rattle.cycle.specs.declared.SteadyStateTolerance.{SteadyStateTolerance}
use Rattle.cycle.specs.Closed.{Timed, stopped, got, then, judged, checked_maximum_to}
use Rattle.cycle.proofs.Stays.{stays}

module _ (tol : SteadyStateTolerance) (a e : List Float) where
  step : ℕ → Float → Timed Float
  step k = judged tol (cell a k) (cell e k)

  maximum-step : (k : ℕ) → checked_maximum_to tol a e (suc k) ≡ then (checked_maximum_to tol a e k) (step k)
  unfolding checked_maximum_to step
  maximum-step k = refl

  module _ (i : ℕ) {m : Float} (so_far : checked_maximum_to tol a e i ≡ got m) {r : Timed Float} (q : r ≡ judged tol (cell a i) (cell e i) m) where
    next : checked_maximum_to tol a e (suc i) ≡ r
    unfolding step
    next = maximum-step i ∙ ap (λ (x : Timed Float). then x (step i)) so_far ∙ sym q

    pub maximum_more : checked_maximum_to tol a e (i + 1) ≡ r
    maximum_more = rw add-one next

    pub maximum-stops : {c n : ℕ} {t : Float} → i < n → r ≡ stopped c t → stopped c t ≡ checked_maximum_to tol a e n
    maximum-stops l s = sym (stays (checked_maximum_to tol a e) step maximum-step (suc i) _ l (next ∙ s))
