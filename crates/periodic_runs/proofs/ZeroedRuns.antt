-- A list that the preparation passes still passes with its doses and reset values zeroed.
use mathlib.Core.Path.{◌≡◌, refl}
use mathlib.Core.Bool.{Bool, true, false}
use mathlib.Core.List.{List, [], ◌∷◌}
use mathlib.Core.Option.{none}
use Prim.Native.Nat.{ℕ, ◌*◌}
use lib.Dec.{T, leb}
use lib.ListN.{length}
use Rattle.protocol.specs.First.{unless, first_of}
use Rattle.protocol.specs.Prepare.{window_passes, events_pass, reckoned, validate, prepare}
use Rattle.protocol.specs.declared.Event.{Event}
use Rattle.protocol.specs.declared.Window.{Window}
use Rattle.linear_pk.specs.declared.kernel.LinearPk.{LinearPk}
use Rattle.cycle.specs.Closed.{divided, homogeneous}
use Rattle.cycle.proofs.Folds.{zeroed-events, zeroed-length}
use Rattle.periodic_runs.specs.Ends.{Runs}

-- where all tests of a preparation pass, they do with another third of 10, 11 and 12 that passes too
still_pass : (a b c d e : Bool) → (T c → T d)
    → first_of (unless a 13 ∷ first_of (unless b 10 ∷ none ∷ unless c 12 ∷ []) ∷ unless e 14 ∷ []) ≡ none
    → first_of (unless a 13 ∷ first_of (unless b 10 ∷ none ∷ unless d 12 ∷ []) ∷ unless e 14 ∷ []) ≡ none
still_pass true true true true true h q = refl
still_pass true true true false true h q = absurd (h tt)
still_pass false b c d e h q = cc
still_pass true false c d e h q = cc
still_pass true true false d e h q = cc
still_pass true true true d false h q = cc

zeroed_passes : (n : ℕ) (w : Window) (es : List Event) → prepare n w [] es ≡ none → prepare n w [] (homogeneous es) ≡ none
unfolding prepare validate homogeneous
zeroed_passes n w es q =
    rw (zeroed-length es)
    (still_pass (leb (length es) w.events) (window_passes w) (events_pass n w [] es) (events_pass n w [] (homogeneous es))
    (leb (reckoned [] es * n) w.outputs) (zeroed-events n w [] es) q)

pub zeroed_runs : (k : LinearPk) (n : ℕ) (w : Window) (es : List Event) → Runs k n w es → Runs k n w (homogeneous es)
zeroed_runs k n w es h = record {
  count = h.count;
  states = h.states;
  few = rw (zeroed-length es) h.few;
  passes = zeroed_passes n (divided n w) es h.passes;
}
