-- An interval: the rates tested, the readings, the arrival.
use mathlib.Core.Path.{◌≡◌}
use Prim.Native.Nat.{ℕ, ◌<◌}
use native.Mathlib.Omega.{arith}
use mathlib.Core.Bool.{true, false}
use mathlib.Core.List.{List, [], ◌∷◌, ◌++◌, map}
use lib.Ieee.{Float}
use lib.Ieee.Scale.{finite}
use Rattle.binary64.specs.Doubles.{plus_zero}
use Rattle.binary64.specs.Lists.{all}
use Rattle.refusal.specs.declared.Refusal.TheVariants as R
use Rattle.protocol.specs.Events.{inside}
use Rattle.protocol.specs.Schedule.{rates, reading, arrive, on_interval}
use Rattle.protocol.specs.Execute.{Propagator}
use Rattle.rows.specs.Written.{Cells}
use Rattle.std.specs.Prelude.{Ok, Err, Result}
use Rattle.rows.specs.Onward.{stops_with}
use Rattle.rows.specs.Standing.{Ran, Fits}
use Rattle.rows.specs.declared.Progress.{Progress}
use Rattle.rows.specs.declared.Stopped.{Stopped}
use Rattle.rows.proofs.Parts.{fits_first, fits_then, ran-stops, ran_then}
use Rattle.rows.proofs.Steps.{rates-refused, rates-pass}

module _ (advance : Propagator) (n : ℕ) (start : Progress) (t : Float) (r : List Float) (u : Float) (ss : List Float) (c : Cells) where
  pub interval-refused :
      all finite r ≡ false
      → Ran advance n start (on_interval t r u ss) c (Err (stops_with start R.SummedRates plus_zero)) c
  unfolding on_interval
  interval-refused e = ran-stops (map (reading t r) (inside t u ss) ++ (arrive t r u ∷ [])) (rates-refused start c r e)

  module _ (e : all finite r ≡ true) where
    passes : Ran advance n start (rates r ∷ []) c (Ok start) c
    passes = rates-pass start c r e

    both_fit : Fits n start (on_interval t r u ss) c → Fits n start (map (reading t r) (inside t u ss) ++ (arrive t r u ∷ [])) c
    unfolding on_interval
    both_fit f = fits_then (rates r ∷ []) (map (reading t r) (inside t u ss) ++ (arrive t r u ∷ [])) f passes

    pub interval_fits : Fits n start (on_interval t r u ss) c → Fits n start (map (reading t r) (inside t u ss)) c
    interval_fits f = fits_first (map (reading t r) (inside t u ss)) (arrive t r u ∷ []) (both_fit f)

    pub interval-stops : {z : Stopped} {d : Cells} → Ran advance n start (map (reading t r) (inside t u ss)) c (Err z) d
        → Ran advance n start (on_interval t r u ss) c (Err z) d
    unfolding on_interval
    interval-stops h = ran_then passes (ran-stops (arrive t r u ∷ []) h)

    module _ {p : Progress} {d : Cells} (h : Ran advance n start (map (reading t r) (inside t u ss)) c (Ok p) d) where
      pub interval-few : Fits n start (on_interval t r u ss) c → p.made < 4294967296
      interval-few f =
          let g = fits_then (map (reading t r) (inside t u ss)) (arrive t r u ∷ []) (both_fit f) h in
          omega (arith, g.few)

      pub interval_arrives : {q : Result Progress Stopped} → Ran advance n p (arrive t r u ∷ []) d q d
          → Ran advance n start (on_interval t r u ss) c q d
      unfolding on_interval
      interval_arrives g = ran_then passes (ran_then h g)
