-- A schedule, executed: each step goes on with a state, or stops with 01's number and time. The run is that up to the first step that stops.
-- The kernel's advance is a parameter. Definitions only.
use Rattle.std.specs.Prelude.{ℕ, ltb, get_or, set, length, Float}
use Rattle.std.proofs.Math.Bool.{cond}
use mathlib.Core.List.{List, [], ◌∷◌, ◌++◌}
use Rattle.std.specs.Float.{nan, binary64}
use Rattle.std.specs.Float.Ieee.{add, sub}
use Rattle.std.specs.Float.Ieee.Scale.{finite}
use Rattle.binary64.specs.Doubles.{plus_zero, nonnegative}
use Rattle.protocol.specs.declared.Event.{Event}
use Rattle.protocol.specs.declared.Event.TheVariants.{Bolus, Infusion, Reset}
use Rattle.protocol.specs.declared.Window.{Window}
use Rattle.binary64.specs.Lists.{all}
use Rattle.refusal.specs.Result.{Result, refused, done}
use Rattle.protocol.specs.Events.{target}
use Rattle.protocol.specs.Schedule.{Step, check, pre, post, apply, rates, reading, arrive, schedule}

-- the kernel's advance: amounts, rates and a duration give amounts, or a number
abbrev pub Propagator : Type 0
Propagator = List Float → List Float → Float → Result (List Float)

-- `Pre` and `Post` are the rows at boundaries. A reading is printed as post.
pub data Side : Type 0 where
  Pre Post Reading : Side

pub record Row : Type 0 where
  pub time : Float
  pub side : Side
  pub amounts : List Float

-- an advance made, from a boundary to a time; a refused one too
pub record Advance : Type 0 where
  pub origin : Float
  pub time : Float

-- the amounts, the rows and the advances so far
pub record State : Type 0 where
  pub amounts : List Float
  pub rows : List Row
  pub advances : List Advance

-- goes on with a state, or stops with a number and a time, and the state as it was left
pub data Outcome : Type 0 where
  go : State → Outcome
  stop : ℕ → Float → State → Outcome

abbrev pub and_then : Outcome → (State → Outcome) → Outcome
and_then (go s) k = k s
and_then (stop c t s) k = stop c t s

abbrev pub with_amounts : List Float → State → State
with_amounts a s = record { amounts = a; rows = s.rows; advances = s.advances }

abbrev pub with_row : Float → Side → List Float → State → State
with_row t d a s = record { amounts = s.amounts; rows = s.rows ++ (record { time = t; side = d; amounts = a } ∷ []); advances = s.advances }

abbrev pub with_advance : Float → Float → State → State
with_advance t u s = record { amounts = s.amounts; rows = s.rows; advances = s.advances ++ (record { origin = t; time = u } ∷ []) }

-- 31 unless each amount is finite and at least 0
abbrev pub checked : Float → State → Outcome
checked t s = cond (all nonnegative s.amounts) (go s) (stop 31 t s)

-- what a bolus or a reset makes of its target's amount
unfoldable pub dosed : Event → Float → Float
dosed (Bolus t i a) x = add binary64 x a
dosed (Infusion t i a d) x = x
dosed (Reset t i v o c) x = v

abbrev pub dosed_amounts : Event → List Float → List Float
dosed_amounts e xs = set xs (target e) (dosed e (get_or xs (target e) nan))

-- goes on with what k makes of the amounts, or stops with the kernel's number at the time u
abbrev pub after_advance : Float → State → (List Float → State) → Result (List Float) → Outcome
after_advance u s k (done a) = go (k a)
after_advance u s k (refused c) = stop c u s

module _ (advance : Propagator) (budget : ℕ) where
  -- one more advance, from t to u: beyond the budget it is 30
  unfoldable pub propagate : Float → List Float → Float → (List Float → State → State) → State → Outcome
  propagate t r u k s =
      let s' = with_advance t u s in
      let o = after_advance u s' (λ (a : List Float). k a s') (advance s.amounts r (sub binary64 u t)) in
      cond (ltb (length s.advances) budget) o (stop 30 u s')

  unfoldable pub execute : State → Step → Outcome
  unfolding propagate
  execute s (check t) = checked t s
  execute s (pre t) = go (with_row t Pre s.amounts s)
  execute s (post t) = go (with_row t Post s.amounts s)
  execute s (apply t e) = checked t (with_amounts (dosed_amounts e s.amounts) s)
  execute s (rates r) = cond (all finite r) (go s) (stop 32 plus_zero s)
  execute s (reading t r u) = propagate t r u (λ (a : List Float). with_row u Reading a) s
  execute s (arrive t r u) = propagate t r u (λ (a : List Float). with_amounts a) s

  unfoldable pub run : State → List Step → Outcome
  unfolding execute
  run s [] = go s
  run s (x ∷ xs) = and_then (execute s x) (λ (z : State). run z xs)

abbrev pub begin : List Float → State
begin a = record { amounts = a; rows = []; advances = [] }

-- 01's run of n states from the amounts a, once the list is prepared
unfoldable pub run_of : Propagator → ℕ → Window → List Float → List Event → List Float → Outcome
unfolding run schedule
run_of advance n w ss es a = run advance w.propagations (begin a) (schedule n w ss es)
