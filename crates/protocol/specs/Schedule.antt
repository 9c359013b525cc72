-- 01, "The rows of a run": what a run does, in which order, worked from the arguments alone, as a list of steps. A step holds all that it
-- needs but the amounts.
-- Rust: the loop of `simulate_matrix`, lib.rs, analytic path. Definitions only.
use Rattle.std.specs.Prelude.{ℕ, ◌+◌, Bool, false, not, cond, ◌&&◌, ◌||◌, get_or, set, replicate, length, Float}
use mathlib.Core.List.{List, [], ◌∷◌, ◌++◌, map, zip_with}
use Rattle.std.specs.Float.{nan, binary64}
use Rattle.std.specs.Float.Ieee.{add, div, lt, le}
use Rattle.binary64.specs.Doubles.{plus_zero}
use Rattle.protocol.specs.declared.Event.{Event}
use Rattle.protocol.specs.declared.Event.TheVariants.{Bolus, Infusion, Reset}
use Rattle.protocol.specs.declared.Window.{Window}
use Rattle.binary64.specs.Lists.{any, pick}
use Rattle.protocol.specs.Events.{target, sorted_unique, boundaries, has_event, resets, boluses, marks, inside}

pub data Step : Type 0 where
  -- the state at the boundary t is checked
  check : Float → Step
  -- the pre row and the post row at the boundary t
  pre : Float → Step
  post : Float → Step
  -- a reset or a bolus at the boundary t, and the state checked
  apply : Float → Event → Step
  -- the summed rates are tested
  rates : List Float → Step
  -- from the boundary t with these rates: a reading at s, and the advance to the next boundary u
  reading : Float → List Float → Float → Step
  arrive : Float → List Float → Float → Step

-- cell i and x more
abbrev pub add_to : List Float → ℕ → Float → List Float
add_to xs i x = set xs i (add binary64 (get_or xs i nan) x)

-- an infusion with time ≤ t < end, unmarked
unfoldable pub flows : Float → Event → Bool → Bool
flows t (Bolus s i a) m = false
flows t (Infusion s i a d) m = not m && (le s t && lt t (add binary64 s d))
flows t (Reset s i v o c) m = false

-- an infusion's rate
unfoldable pub infusion_rate : Event → Float
infusion_rate (Bolus t i a) = plus_zero
infusion_rate (Infusion t i a d) = div binary64 a d
infusion_rate (Reset t i v o c) = plus_zero

abbrev pub with_rate : Float → Event → Bool → List Float → List Float
with_rate t e m r = cond (flows t e m) (add_to r (target e) (infusion_rate e)) r

-- in list order, each event with its mark
abbrev pub with_rates : Float → List Event → List Bool → List Float → List Float
with_rates t [] ms r = r
with_rates t (e ∷ es) [] r = r
with_rates t (e ∷ es) (m ∷ ms) r = with_rates t es ms (with_rate t e m r)

-- from +0
unfoldable pub summed : ℕ → Float → List Event → List Bool → List Float
summed n t es ms = with_rates t es ms (replicate n plus_zero)

-- the marks, by index, behind the resets at t
unfoldable pub marked : Float → List Event → List Bool → List Bool
unfolding zip_with
marked t es ms = zip_with (λ (e : Event) (m : Bool). m || any (λ (r : Event). marks t r e) es) es ms

-- at the boundary t
unfoldable pub at_boundary : Float → List Event → List Step
at_boundary t es = check t ∷ (pick (has_event t es) (pre t) [] ++ (map (apply t) (resets t es ++ boluses t es) ++ (post t ∷ [])))

-- from t to the next boundary u, with the rates r
unfoldable pub on_interval : Float → List Float → Float → List Float → List Step
on_interval t r u ss = rates r ∷ (map (reading t r) (inside t u ss) ++ (arrive t r u ∷ []))

-- from the boundary t on, with the marks so far; behind it come the others
unfoldable pub following : ℕ → List Event → List Float → List Bool → Float → List Float → List Step
unfolding at_boundary on_interval summed marked
following n es ss ms t [] = at_boundary t es
following n es ss ms t (u ∷ us) =
    at_boundary t es ++ (on_interval t (summed n t es (marked t es ms)) u ss ++ following n es ss (marked t es ms) u us)

unfoldable pub from_first : ℕ → List Event → List Float → List Float → List Step
unfolding following
from_first n es ss [] = []
from_first n es ss (t ∷ ts) = following n es ss (replicate (length es) false) t ts

-- a run of n states: each sample value is used once
unfoldable pub schedule : ℕ → Window → List Float → List Event → List Step
unfolding from_first sorted_unique boundaries
schedule n w ss es = from_first n es (sorted_unique ss) (boundaries w es)

-- the rows of a step
abbrev pub row_count : Step → ℕ
row_count (check t) = 0
row_count (pre t) = 1
row_count (post t) = 1
row_count (apply t e) = 0
row_count (rates r) = 0
row_count (reading t r u) = 1
row_count (arrive t r u) = 0

-- over the steps of a schedule
abbrev pub total : (Step → ℕ) → List Step → ℕ
total f [] = 0
total f (x ∷ xs) = f x + total f xs
