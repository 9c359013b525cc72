-- Demand 3's claim about a plain run, over all kernels with the laws below, windows, lists that the preparation passes, and amounts that
-- are finite and at least 0. A claim, no proof.
use Rattle.std.specs.Prelude.{◌≡◌, ℕ, suc, ◌+◌, ◌-◌, ◌≤◌, ◌<◌, Bool, not, ◌&&◌, List, [], ◌∷◌, ◌++◌, ◌⊎◌, ◌↔◌, T, eqb, length, Float}
use Rattle.std.proofs.Math.Option.{none}
use Rattle.std.specs.Float.{binary64}
use Rattle.std.specs.Float.Ieee.{sub, eq, fits}
use Rattle.std.specs.Float.Ieee.Scale.{finite}
use Rattle.binary64.specs.Doubles.{plus_zero, nonnegative}
use Rattle.protocol.specs.declared.Event.{Event}
use Rattle.protocol.specs.declared.Window.{Window}
use Rattle.binary64.specs.Lists.{any, all, filter, flat_map, amounts_pass}
use Rattle.refusal.specs.Result.{refused, done}
use Rattle.protocol.specs.Events.{time, sorted_unique, boundaries}
use Rattle.protocol.specs.Prepare.{reckoned, prepare}
use Rattle.protocol.specs.Schedule.{Step, check, pre, post, apply, rates, reading, arrive, schedule}
use Rattle.protocol.specs.Execute.{Propagator, Row, Post, Advance, State, Outcome, go, stop, dosed_amounts, begin, run, run_of}

-- ---- what is given
abbrev pub one_of : ℕ → List ℕ → Bool
one_of c cs = any (eqb c) cs

-- the numbers of the arithmetic of an advance
abbrev pub advance_numbers : List ℕ
advance_numbers = 20 ∷ 21 ∷ 22 ∷ []

-- those by which a run in a cycle stops
abbrev pub stop_numbers : List ℕ
stop_numbers = 20 ∷ 21 ∷ 22 ∷ 30 ∷ 31 ∷ 32 ∷ []

-- what `advance` asks of its amounts, rates and duration
abbrev pub arguments_pass : ℕ → List Float → List Float → Float → Bool
arguments_pass n a r d = amounts_pass n a && (amounts_pass n r && nonnegative d)

-- of each number its condition, on the amounts, the rates and the duration of an advance
abbrev pub Conditions : Type 1
Conditions = ℕ → List Float → List Float → Float → Type 0

-- the kernel's advance, of n states, and when it refuses
pub record KernelLaws (n : ℕ) (advance : Propagator) (Refuses : Conditions) : Type 0 where
  -- 3 exactly where an argument does not pass
  pub three : (a r : List Float) (d : Float) → (advance a r d ≡ refused 3) ↔ T (not (arguments_pass n a r d))
  pub numbers : (a r : List Float) (d : Float) (c : ℕ) → advance a r d ≡ refused c → T (one_of c (3 ∷ advance_numbers))
  pub amounts : (a r : List Float) (d : Float) (v : List Float) → advance a r d ≡ done v → T (amounts_pass n v)
  -- where they pass and the duration is not 0, a number exactly where its condition holds
  pub conditions : (a r : List Float) (d : Float) → T (arguments_pass n a r d) → T (not (eq d plus_zero)) → (c : ℕ)
      → (advance a r d ≡ refused c) ↔ Refuses c a r d

-- the times are doubles, and no test of the preparation refuses
pub record Prepared (n : ℕ) (w : Window) (ss : List Float) (es : List Event) : Type 0 where
  pub start_fits : T (fits binary64 w.start)
  pub end_fits : T (fits binary64 w.end)
  pub samples_fit : T (all (fits binary64) ss)
  pub times_fit : T (all (λ (e : Event). fits binary64 (time e)) es)
  pub passes : prepare n w ss es ≡ none

-- end − start is finite
abbrev pub Cycle : Window → Type 0
Cycle w = T (finite (sub binary64 w.end w.start))

-- ---- when a run stops
-- the step advances from the boundary t with the rates r to the time u
pub data Advances : Step → Float → List Float → Float → Type 0 where
  to_reading : {t : Float} {r : List Float} {u : Float} → Advances (reading t r u) t r u
  to_boundary : {t : Float} {r : List Float} {u : Float} → Advances (arrive t r u) t r u

-- the condition of a number, met with a time by the step x at the state s
pub data Meets (Refuses : Conditions) (budget : ℕ) : ℕ → Float → Step → State → Type 0 where
  -- 30: the budget is spent; the row's time
  spent : {t : Float} {r : List Float} {u : Float} {x : Step} {s : State}
      → Advances x t r u
      → budget ≤ length s.advances
      → Meets Refuses budget 30 u x s
  -- 3: u − t overflows; the row's time
  overflows : {t : Float} {r : List Float} {u : Float} {x : Step} {s : State}
      → Advances x t r u
      → length s.advances < budget
      → T (not (finite (sub binary64 u t)))
      → Meets Refuses budget 3 u x s
  -- 20, 21, 22: u − t is finite, and over it the number's condition holds; the row's time
  refuses : {t : Float} {r : List Float} {u : Float} {c : ℕ} {x : Step} {s : State}
      → Advances x t r u
      → length s.advances < budget
      → T (finite (sub binary64 u t))
      → T (one_of c advance_numbers)
      → Refuses c s.amounts r (sub binary64 u t)
      → Meets Refuses budget c u x s
  -- 31: an amount is not finite or below 0, at the check or behind a reset or a bolus; the boundary's time
  state : {t : Float} {s : State} → T (not (all nonnegative s.amounts)) → Meets Refuses budget 31 t (check t) s
  dose : {t : Float} {e : Event} {s : State} → T (not (all nonnegative (dosed_amounts e s.amounts))) → Meets Refuses budget 31 t (apply t e) s
  -- 32: a summed rate is not finite; +0
  summed_rates : {r : List Float} {s : State} → T (not (all finite r)) → Meets Refuses budget 32 plus_zero (rates r) s

-- the schedule xs from the state s: the steps ahead go on, and the next one meets the condition of the number c with the time t
pub record FirstMet (advance : Propagator) (Refuses : Conditions) (budget : ℕ) (s : State) (xs : List Step) (c : ℕ) (t : Float) : Type 0 where
  pub ahead : List Step
  pub step : Step
  pub rest : List Step
  pub parts : xs ≡ ahead ++ (step ∷ rest)
  pub left : State
  pub ran : run advance budget s ahead ≡ go left
  pub meets : Meets Refuses budget c t step left

-- ---- what a run leaves
abbrev pub rows_left : Outcome → List Row
rows_left (go s) = s.rows
rows_left (stop c t s) = s.rows

-- the advance of a step
abbrev pub advances_by : Step → List Advance
advances_by (check t) = []
advances_by (pre t) = []
advances_by (post t) = []
advances_by (apply t e) = []
advances_by (rates r) = []
advances_by (reading t r u) = record { origin = t; time = u } ∷ []
advances_by (arrive t r u) = record { origin = t; time = u } ∷ []

-- the distinct samples that stand at no boundary
abbrev pub between : Window → List Float → List Event → List Float
between w ss es = filter (λ (s : Float). not (any (λ (b : Float). eq b s) (boundaries w es))) (sorted_unique ss)

-- the last row is the post row at the end, with the amounts that the run leaves
pub record EndRow (w : Window) (z : State) : Type 0 where
  pub ahead : List Row
  pub last : Row
  pub whole : z.rows ≡ ahead ++ (last ∷ [])
  pub post : last.side ≡ Post
  pub at_end : T (eq last.time w.end)
  pub final : last.amounts ≡ z.amounts

pub record Reached (n : ℕ) (w : Window) (ss : List Float) (es : List Event) (z : State) : Type 0 where
  pub end_row : EndRow w z
  pub advances : z.advances ≡ flat_map advances_by (schedule n w ss es)
  -- to each boundary behind the first, and to each distinct sample that stands at no boundary
  pub count : length z.advances ≡ length (boundaries w es) - 1 + length (between w ss es)

-- the advances of a run with this number: at most the budget, unless the number is 30; the budget and one then
pub record Budgeted (budget number advances : ℕ) : Type 0 where
  pub within : (number ≡ 30 → ⊥) → advances ≤ budget
  pub beyond : number ≡ 30 → advances ≡ suc budget

-- ---- what is claimed of the run of a list from the amounts a
module _ (advance : Propagator) (Refuses : Conditions) (n : ℕ) (w : Window) (ss : List Float) (es : List Event) (a : List Float) where
  -- 01's run
  abbrev outcome : Outcome
  outcome = run_of advance n w ss es a

  -- it stops with the number c and the time t, and leaves the state z
  abbrev Stops : ℕ → Float → State → Type 0
  Stops c t z = outcome ≡ stop c t z

  -- the first condition that it meets is that of the number c, with the time t
  abbrev Met : ℕ → Float → Type 0
  Met c t = FirstMet advance Refuses w.propagations (begin a) (schedule n w ss es) c t

  pub record PlainRun : Type 0 where
    -- the rows are within the reckoned ones, wherever the run ends
    pub within : length (rows_left outcome) ≤ reckoned ss es
    -- each has n amounts that are finite and at least 0
    pub rows : T (all (λ (r : Row). amounts_pass n r.amounts) (rows_left outcome))
    -- where it goes on through the whole schedule it comes to the post row at the end
    pub reached : (z : State) → outcome ≡ go z → Reached n w ss es z
    -- it stops with a number and a time exactly where the first step that refuses meets the condition of the number with that time
    pub exact : (c : ℕ) (t : Float) → ((z : State) × Stops c t z) ↔ Met c t
    -- the advances are those of the steps up to the refusing one, that one too
    pub advances : (c : ℕ) (t : Float) (z : State) → Stops c t z → (f : Met c t) → z.advances ≡ flat_map advances_by (f.ahead ++ (f.step ∷ []))
    -- at most the budget where it reaches the end
    pub ended : (z : State) → outcome ≡ go z → length z.advances ≤ w.propagations
    -- and where it stops, unless by 30; the budget and one then
    pub budgeted : (c : ℕ) (t : Float) (z : State) → Stops c t z → Budgeted w.propagations c (length z.advances)
    -- in a cycle it reaches the end, or stops by 20, 21, 22, 30, 31 or 32, and never by 3
    pub cycle : Cycle w
        → ((z : State) × (outcome ≡ go z)) ⊎ ((c : ℕ) × (t : Float) × (z : State) × Stops c t z × T (one_of c stop_numbers))

-- for every kernel with these laws, every list that the preparation passes, and amounts that are finite and at least 0
abbrev pub EveryPlainRun : Type 1
EveryPlainRun =
    (n : ℕ) (advance : Propagator) (Refuses : Conditions)
    → KernelLaws n advance Refuses
    → (w : Window) (ss : List Float) (es : List Event)
    → Prepared n w ss es
    → (a : List Float)
    → T (amounts_pass n a)
    → PlainRun advance Refuses n w ss es a
