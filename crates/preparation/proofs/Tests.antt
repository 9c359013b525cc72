-- The preparation of a list, test by test.
use mathlib.Core.Path.{◌≡◌, refl}
use mathlib.Core.Bool.{Bool, true, false}
use mathlib.Core.List.{List, [], ◌∷◌}
use mathlib.Core.Option.{Option, some, none}
use Prim.Native.Nat.{ℕ, suc, ◌+◌, ◌*◌, ◌≤◌}
use native.Mathlib.Omega.{arith}
use borrow.Author.Tests.{le-leb}
use lib.Dec.{leb}
use lib.ListN.{length}
use lib.Ieee.{Float}
use Rattle.protocol.specs.First.{unless, first_of}
use Rattle.binary64.specs.Lists.{all}
use Rattle.protocol.specs.Prepare.{validate, window_passes, within, events_pass, reckoned, prepare}
use Rattle.protocol.specs.declared.Window.{Window}
use Rattle.protocol.specs.declared.Event.{Event}
use Rattle.preparation.specs.Preparation.{option_number}

-- the preparation is 13, `validate`, 14
prepare-by :
    (n : ℕ) (w : Window) (ss : List Float) (es : List Event) {b f : Bool}
    → b ≡ leb (length es) w.events → f ≡ leb ((4 * length es + length ss + 2) * n) w.outputs
    → prepare n w ss es ≡ first_of (unless b 13 ∷ validate n w ss es ∷ unless f 14 ∷ [])
unfolding prepare
prepare-by n w ss es {b} {f} p t = rw (← p, ← t)

-- ---- 0 stands for none
-- a number above 0 is that of the first test that fails
pub first_refused : (o : Option ℕ) (os : List (Option ℕ)) {c : ℕ} → 1 ≤ c → c ≡ option_number o → c ≡ option_number (first_of (o ∷ os))
first_refused none os h e = absurd (no h e)
  where
    no : {c : ℕ} → 1 ≤ c → c ≡ 0 → ⊥
    no h e = omega arith
first_refused (some k) os h e = e

no_number : {A : Type 0} {c : ℕ} → 0 ≡ suc c → A
no_number e = absurd (never e)
  where
    never : {c : ℕ} → 0 ≡ suc c → ⊥
    never e = omega arith

-- so it is `validate`'s number
pub validate-fails :
    (n : ℕ) (w : Window) (ss : List Float) (es : List Event) → length es ≤ w.events → {c : ℕ} → 1 ≤ c → c ≡ option_number (validate n w ss es)
    → c ≡ option_number (prepare n w ss es)
validate-fails n w ss es h l e =
    rw (prepare-by n w ss es refl refl, le-leb _ _ h) (first_refused (validate n w ss es)
    (unless (leb ((4 * length es + length ss + 2) * n) w.outputs) 14 ∷ []) l e)

pub prepare-passes : (n : ℕ) (w : Window) (ss : List Float) (es : List Event) → 0 ≡ option_number (prepare n w ss es) → prepare n w ss es ≡ none
unfolding prepare validate
prepare-passes n w ss es = on (leb (length es) w.events) (window_passes w) (all (within w) ss) (events_pass n w [] es) (leb (reckoned ss es * n) w.outputs)
  where
    on : (a b c d e : Bool) → 0 ≡ option_number (first_of (unless a 13 ∷ first_of (unless b 10 ∷ unless c 11 ∷ unless d 12 ∷ []) ∷ unless e 14 ∷ []))
        → first_of (unless a 13 ∷ first_of (unless b 10 ∷ unless c 11 ∷ unless d 12 ∷ []) ∷ unless e 14 ∷ []) ≡ none
    on true true true true true h = refl
    on true true true true false h = no_number {c = 13} h
    on true true true false e h = no_number {c = 11} h
    on true true false d e h = no_number {c = 10} h
    on true false c d e h = no_number {c = 9} h
    on false b c d e h = no_number {c = 12} h
