-- What the tests of the folded list reply.
use mathlib.Core.Path.{◌≡◌, refl, ap}
use mathlib.Core.Bool.{Bool, true, false}
use mathlib.Core.List.{List, [], ◌∷◌}
use Prim.Native.Nat.{ℕ}
use native.Mathlib.Omega.{arith}
use lib.Ieee.{Float}
use Rattle.std.specs.Prelude.{Ok, Err}
use Rattle.binary64.specs.Lists.{all}
use Rattle.refusal.specs.Result.{refused}
use Rattle.refusal.specs.Numbers.{Reply, refusal_number, reply_number, result_of}
use Rattle.refusal.specs.declared.Refusal.{Refusal}
use Rattle.refusal.proofs.Numbers.{refusal-number}
use Rattle.protocol.specs.First.{unless, first_of}
use Rattle.protocol.specs.Prepare.{validate, window_passes, within, events_pass}
use Rattle.protocol.specs.declared.Event.{Event}
use Rattle.protocol.specs.declared.Window.{Window}
use Rattle.preparation_validation.specs.Validation.{option_number}
use Rattle.cycle.specs.Fold.{passing}

pub validated : {A : Type 0} (n : ℕ) (w : Window) (ss : List Float) (es : List Event) (v : Reply) (a : A)
    → reply_number v ≡ option_number (validate n w ss es) → result_of v a ≡ passing (validate n w ss es) a
unfolding validate
validated {A} n w ss es v a = on (window_passes w) (all (within w) ss) (events_pass n w [] es) v
  where
    never : (x : Refusal) → refusal_number x ≡ 0 → ⊥
    never x e = omega (arith, refusal-number x)

    on : (p q r : Bool) (v : Reply) → reply_number v ≡ option_number (first_of (unless p 10 ∷ unless q 11 ∷ unless r 12 ∷ []))
        → result_of v a ≡ passing (first_of (unless p 10 ∷ unless q 11 ∷ unless r 12 ∷ [])) a
    on true true true (Ok u) e = refl
    on true true true (Err x) e = absurd (never x e)
    on true true false (Ok u) e = absurd (omega (arith, e))
    on true true false (Err x) e = ap refused e
    on true false r (Ok u) e = absurd (omega (arith, e))
    on true false r (Err x) e = ap refused e
    on false q r (Ok u) e = absurd (omega (arith, e))
    on false q r (Err x) e = ap refused e
