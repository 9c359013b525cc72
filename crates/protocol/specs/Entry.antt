-- The library's run, `simulate`: which test refuses first, what is replied, and what the three lent slices hold at exit. 01, "The rows of a
-- run" and "Who brought it on". Definitions only.
use Rattle.std.specs.Prelude.{ℕ, ◌-◌, ◌*◌, Bool, ◌&&◌, List, [], ◌∷◌, ◌++◌, leb, length, replicate, drop, Float}
use Rattle.std.proofs.Math.Option.{Option, some, none}
use Rattle.limits.specs.Limits.{most_events, most_samples}
use Rattle.binary64.specs.Doubles.{plus_zero}
use Rattle.protocol.specs.declared.Event.{Event}
use Rattle.protocol.specs.declared.Window.{Window}
use Rattle.binary64.specs.Lists.{flat_map, amounts_pass}
use Rattle.refusal.specs.Result.{Result, refused, done}
use Rattle.protocol.specs.First.{unless, first_of}
use Rattle.protocol.specs.Prepare.{reckoned, prepare}
use Rattle.protocol.specs.Execute.{Propagator, Side, Pre, Post, Reading, Row, Outcome, go, stop, run_of}

-- how many cells the lent slices have
pub record Room : Type 0 where
  pub times : ℕ
  pub sides : ℕ
  pub values : ℕ

-- room for so many rows of n amounts
abbrev pub room_for : ℕ → ℕ → Room → Bool
room_for rows n room = leb rows room.times && (leb rows room.sides && leb (rows * n) room.values)

-- the first number of the tests ahead of the run: 5, the kernel's own, 3, the preparation's, 4
unfoldable pub first_refusal : Option ℕ → ℕ → Window → List Float → List Event → List Float → Room → Option ℕ
unfolding prepare
first_refusal own n w ss es a room =
    first_of
    (unless (leb (length es) most_events && leb (length ss) most_samples) 5
    ∷ own
    ∷ unless (amounts_pass n a) 3
    ∷ prepare n w ss es
    ∷ unless (room_for (reckoned ss es) n room) 4
    ∷ [])

-- refused ahead, or the outcome of a run that began; `own` is the number of the kernel's own test, and n its states
unfoldable pub simulate : Propagator → Option ℕ → ℕ → Window → List Float → List Event → List Float → Room → Result Outcome
unfolding first_refusal run_of
simulate advance own n w ss es a room = elim (first_refusal own n w ss es a room) [ none ↦ done (run_of advance n w ss es a) | some c ↦ refused c ]

-- ---- the reply
-- 0 is the number of a run that reached its end
pub record RunReport : Type 0 where
  pub number : ℕ
  pub time : Float
  pub rows : ℕ
  pub advances : ℕ

-- a refusal gives its number and a time, +0 unless said; a stopped run also the advances made, the refused one counted; all else is zero
abbrev pub report_of : Result Outcome → RunReport
report_of (refused c) = record { number = c; time = plus_zero; rows = 0; advances = 0 }
report_of (done (stop c t s)) = record { number = c; time = t; rows = 0; advances = length s.advances }
report_of (done (go s)) = record { number = 0; time = plus_zero; rows = length s.rows; advances = length s.advances }

-- ---- the slices
-- 0 is the side of a row that is not reached
abbrev pub side_code : Side → ℕ
side_code Pre = 1
side_code Post = 2
side_code Reading = 2

-- xs from the front, zeros up to k cells, the old cells behind
abbrev pub front_then_zeros : {A : Type 0} → A → ℕ → List A → List A → List A
front_then_zeros z k xs old = xs ++ (replicate (k - length xs) z ++ drop k old)

-- A slice at exit, of which k cells are reckoned: the cells of each row in turn. A stopped run leaves the reckoned cells zero, a refusal
-- ahead of the run the slice as it was.
abbrev pub at_exit : {A : Type 0} → A → (Row → List A) → ℕ → Result Outcome → List A → List A
at_exit z cells k (refused c) old = old
at_exit z cells k (done (stop c t s)) old = front_then_zeros z k [] old
at_exit z cells k (done (go s)) old = front_then_zeros z k (flat_map cells s.rows) old

-- of `rows` reckoned rows: times, sides, and n amounts a row
abbrev pub times_at_exit : ℕ → Result Outcome → List Float → List Float
times_at_exit rows o old = at_exit plus_zero (λ (r : Row). r.time ∷ []) rows o old

abbrev pub sides_at_exit : ℕ → Result Outcome → List ℕ → List ℕ
sides_at_exit rows o old = at_exit 0 (λ (r : Row). side_code r.side ∷ []) rows o old

abbrev pub values_at_exit : ℕ → ℕ → Result Outcome → List Float → List Float
values_at_exit rows n o old = at_exit plus_zero (λ (r : Row). r.amounts) (rows * n) o old
