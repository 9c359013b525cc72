-- The times of a call are doubles: a slice of doubles tells it of each.
use mathlib.Core.List.{List, [], ◌∷◌}
use Prim.Native.Nat.{ℕ, suc}
use lib.Dec.{T}
use lib.ListN.{get_or}
use lib.Ieee.{Float, nan, binary64, fits}
use Rattle.binary64.specs.Lists.{all}
use Rattle.protocol.specs.declared.Event.{Event}
use Rattle.protocol.specs.Events.{time}
use Rattle.protocol.proofs.ListLaws.{and_T}
use Rattle.theorem_runs_and_cycles.specs.Simulate.{Call, TimesFit}

each_fits : (xs : List Float) → ((i : ℕ) → T (fits binary64 (get_or xs i nan))) → T (all (fits binary64) xs)
each_fits [] h = tt
each_fits (x ∷ xs) h = and_T (fits binary64 x) (all (fits binary64) xs) (h 0) (each_fits xs (λ i. h (suc i)))

pub times_fit : {c : Call} → T (fits binary64 c.window.start) → T (fits binary64 c.window.end) → ((i : ℕ) → T (fits binary64 (get_or c.samples i nan)))
    → T (all (λ (e : Event). fits binary64 (time e)) c.events) → TimesFit c
times_fit {c} start end samples times =
    record { start_fits = start; end_fits = end; samples_fit = each_fits c.samples samples; times_fit = times }
