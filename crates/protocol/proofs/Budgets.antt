-- How many advances a run makes: at most the budget (`run-few`), unless it stops with 30, and the budget and one then (`budgeted-meets`). Assumes nothing.
use mathlib.Core.Path.{◌≡◌, refl, sym, ap, ◌∙◌, subst}
use Prim.Native.Nat.{ℕ, suc, ◌+◌, ◌≤◌, ◌<◌}
use native.Mathlib.Nat.{le_antisymm}
use native.Mathlib.Omega.{arith}
use mathlib.Core.Bool.{Bool, true, false, cond}
use mathlib.Core.List.{List, [], ◌∷◌, ◌++◌}
use lib.Dec.{T, ltb, ltb→lt}
use lib.ListN.{length, length-append}
use lib.Ieee.{Float, binary64, sub}
use Rattle.protocol.specs.Schedule.{Step, check, pre, post, apply, rates, reading, arrive}
use Rattle.protocol.specs.Execute.{Propagator, Reading, Advance, State, Outcome, go, stop, and_then, with_amounts, with_row}
use Rattle.protocol.specs.Execute.{with_advance, after_advance, propagate, execute, run}
use Rattle.protocol.specs.PlainRun.{advance_numbers, one_of, Conditions, Advances, to_reading, to_boundary, Meets, spent, overflows, refuses, state}
use Rattle.protocol.specs.PlainRun.{dose, summed_rates, advances_by, Budgeted}
use Rattle.protocol.proofs.FirstStop.{stop-go, go_same}
use Rattle.protocol.proofs.Effects.{step_left}

-- the advance of a step, or none
one_more : {x : Step} {t : Float} {r : List Float} {u : Float} → Advances x t r u → (m : List Advance) → length (m ++ advances_by x) ≡ suc (length m)
one_more {t = t} {u = u} to_reading m = omega (arith, length-append m (record { origin = t; time = u } ∷ []))
one_more {t = t} {u = u} to_boundary m = omega (arith, length-append m (record { origin = t; time = u } ∷ []))

no_more : (m : List Advance) → length (m ++ []) ≡ length m
no_more m = omega (arith, length-append m [])

-- ---- a run that goes on
module _ (advance : Propagator) (budget : ℕ) where
  abbrev Few : List Advance → Type 0
  Few m = length m ≤ budget

  room : (t : Float) (r : List Float) (u : Float) (k : List Float → State → State) (s z : State) → propagate advance budget t r u k s ≡ go z
      → length s.advances < budget
  unfolding propagate
  room t r u k s z e = on (ltb (length s.advances) budget) (ltb→lt (length s.advances) budget) e
    where
      on : (b : Bool) → (T b → length s.advances < budget)
          → cond b (after_advance u (with_advance t u s) (λ (a : List Float). k a (with_advance t u s))
          (advance s.amounts r (sub binary64 u t))) (stop 30 u (with_advance t u s)) ≡ go z → length s.advances < budget
      on true f e = f tt
      on false f e = absurd (stop-go e)

  step-few : (x : Step) (s z : State) → Few s.advances → execute advance budget s x ≡ go z → Few z.advances
  unfolding execute
  step-few x s z h e = subst Few (sym (step_left advance budget x s z e).advances) (on x e)
    where
      quiet : Few (s.advances ++ [])
      quiet = omega (arith, h, no_more s.advances)

      more : {x : Step} {t : Float} {r : List Float} {u : Float} → Advances x t r u → length s.advances < budget → Few (s.advances ++ advances_by x)
      more to l = omega (arith, l, one_more to s.advances)

      on : (x : Step) → execute advance budget s x ≡ go z → Few (s.advances ++ (advances_by x ++ []))
      on (check t) e = quiet
      on (pre t) e = quiet
      on (post t) e = quiet
      on (apply t v) e = quiet
      on (rates r) e = quiet
      on (reading t r u) e = more (to_reading {t = t} {r = r} {u = u}) (room t r u (λ (a : List Float). with_row u Reading a) s z e)
      on (arrive t r u) e = more (to_boundary {t = t} {r = r} {u = u}) (room t r u (λ (a : List Float). with_amounts a) s z e)

  pub run-few : (xs : List Step) (s z : State) → Few s.advances → run advance budget s xs ≡ go z → Few z.advances
  unfolding run
  run-few [] s z h e = subst (λ (y : State). Few y.advances) (go_same e) h
  run-few (x ∷ xs) s z h e = on (execute advance budget s x) refl e (λ (y : State). run-few xs y z)
    where
      on : (o : Outcome) → execute advance budget s x ≡ o → and_then o (λ (y : State). run advance budget y xs) ≡ go z
          → ((y : State) → Few y.advances → run advance budget y xs ≡ go z → Few z.advances) → Few z.advances
      on (go y) p q ih = ih y (step-few x s y h p) q
      on (stop c t y) p q ih = absurd (stop-go q)

-- ---- a step that stops
-- another number than 30
other : {budget c k : ℕ} → (c ≡ 30 → ⊥) → k ≤ budget → Budgeted budget c k
other f h = record { within = λ _. h; beyond = λ q. absurd (f q) }

pub budgeted-meets : {Refuses : Conditions} {budget c : ℕ} {t : Float} {x : Step} {s : State} → Meets Refuses budget c t x s
    → length s.advances ≤ budget → Budgeted budget c (length (s.advances ++ advances_by x))
budgeted-meets {s = s} (spent to h) f = record { within = λ g. absurd (g refl); beyond = λ _. one_more to s.advances ∙ ap suc (le_antisymm f h) }
budgeted-meets {s = s} (overflows to l h) f = other (λ q. omega arith) (omega (arith, l, one_more to s.advances))
budgeted-meets {s = s} (refuses to l g o h) f = other (λ q. subst (λ (k : ℕ). T (one_of k advance_numbers)) q o)
    (omega (arith, l, one_more to s.advances))
budgeted-meets {s = s} (state h) f = other (λ q. omega arith) (omega (arith, f, no_more s.advances))
budgeted-meets {s = s} (dose h) f = other (λ q. omega arith) (omega (arith, f, no_more s.advances))
budgeted-meets {s = s} (summed_rates h) f = other (λ q. omega arith) (omega (arith, f, no_more s.advances))
