-- Single steps at a boundary, in the words of the code.
use mathlib.Core.Path.{◌≡◌, refl}
use Prim.Native.Nat.{ℕ}
use native.Mathlib.Nat.{add-zero, sub-zero}
use mathlib.Core.Bool.{Bool, true, false}
use mathlib.Core.List.{List, [], ◌∷◌}
use lib.ListN.{take}
use lib.Ieee.{Float}
use Rattle.binary64.specs.Doubles.{nonnegative}
use Rattle.protocol.specs.declared.Event.{Event}
use Rattle.binary64.specs.Lists.{all}
use Rattle.protocol.specs.Schedule.{check, apply}
use Rattle.protocol.specs.Execute.{Propagator, dosed_amounts, execute, run}
use Rattle.rows.specs.Written.{Cells}
use Rattle.rows.specs.Standing.{after, Ran}
use Rattle.std.specs.Prelude.{Result}
use Rattle.rows.specs.declared.Progress.{Progress}
use Rattle.rows.specs.declared.Stopped.{Stopped}
use Rattle.doses_steps.specs.Takes.{checked_with, Takes}

module _ (n : ℕ) (t : Float) (start : Progress) where
  -- ---- the state is checked
  check_on : (a : Propagator) (c : Cells) (b : Bool) → all nonnegative (take n start.amounts) ≡ b
      → Ran a n start (check t ∷ []) c (checked_with n t start start.amounts) c
  unfolding after run execute
  check_on a c true h = record { progress = rw (h, sub-zero start.left, add-zero start.made, add-zero start.rows); cells = rw h }
  check_on a c false h = record { progress = rw (h, sub-zero start.left, add-zero start.made, add-zero start.rows); cells = rw h }

  pub check_takes : {r : Result Progress Stopped} → r ≡ checked_with n t start start.amounts → Takes n start (check t ∷ []) r
  check_takes e = rw e (record { ran = λ a c. check_on a c (all nonnegative (take n start.amounts)) refl })

  -- ---- a reset or a bolus
  module _ (e : Event) (next : List Float) (q : take n next ≡ dosed_amounts e (take n start.amounts)) where
    apply_on : (a : Propagator) (c : Cells) (b : Bool) → all nonnegative (take n next) ≡ b → Ran a n start (apply t e ∷ []) c (checked_with n t start next) c
    unfolding after run execute
    apply_on a c true h = record { progress = rw (h, ← q, h, sub-zero start.left, add-zero start.made, add-zero start.rows); cells = rw (← q, h) }
    apply_on a c false h = record { progress = rw (h, ← q, h, sub-zero start.left, add-zero start.made, add-zero start.rows); cells = rw (← q, h) }

    pub apply_takes : {r : Result Progress Stopped} → r ≡ checked_with n t start next → Takes n start (apply t e ∷ []) r
    apply_takes z = rw z (record { ran = λ a c. apply_on a c (all nonnegative (take n next)) refl })
