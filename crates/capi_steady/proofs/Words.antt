-- The closed cycle of events that are laid out as words is the library's of the list that they are read into.
use mathlib.Core.Path.{◌≡◌, refl, sym, ap, ◌∙◌}
use mathlib.Core.Bool.{Bool, true, false}
use mathlib.Core.List.{List}
use Prim.Native.Nat.{ℕ, ◌<◌}
use native.Mathlib.Omega.{arith}
use borrow.Author.Tests.{lt-leb, leb-true, leb-false}
use lib.Dec.{leb}
use lib.ListN.{length, take}
use lib.Seq.{take_all, length-take-le}
use lib.Ieee.{Float}
use Rattle.limits.specs.Limits.{most_cycle_events, most_events}
use Rattle.binary64.specs.Doubles.{plus_zero}
use Rattle.linear_pk.specs.declared.kernel.LinearPk.{LinearPk}
use Rattle.protocol.specs.declared.Event.{Event}
use Rattle.protocol.specs.declared.Window.{Window}
use Rattle.cycle.specs.declared.SteadyStateTolerance.{SteadyStateTolerance}
use Rattle.cycle.specs.Closed.{stopped}
use Rattle.periodic_acceptance.specs.Entry.{steady_entry}

module _ (k : LinearPk) (w : Window) (ss : List Float) (ws : List ℕ) (tol : SteadyStateTolerance) (room : Bool) where
  over : (es : List Event) → most_cycle_events < length es → steady_entry k w ss es tol room ≡ stopped 5 plus_zero
  unfolding steady_entry
  over es h = rw (lt-leb (length es) most_cycle_events h)

  -- those that a list holds are solved as all are
  pub read_in : (es : List Event) → steady_entry k w ss (take most_events es) tol room ≡ steady_entry k w ss es tol room
  read_in es = on (leb (length es) most_events) refl
    where
      on : (b : Bool) → leb (length es) most_events ≡ b → steady_entry k w ss (take most_events es) tol room ≡ steady_entry k w ss es tol room
      on true e = ap (λ (xs : List Event). steady_entry k w ss xs tol room) (take_all most_events es (leb-true (length es) most_events e))
      on false e =
          let l = leb-false (length es) most_events e in
          over (take most_events es) (omega (arith, length-take-le most_events es (omega arith))) ∙ sym (over es (omega arith))
