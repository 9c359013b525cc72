-- Demand 3 of what `simulate` replies and leaves in the lent slices, for every call that meets its contract. Claims, no proof.
use Rattle.std.specs.Prelude.{◌≡◌, ℕ, ◌*◌, ◌≤◌, ◌<◌, List, [], ◌∷◌, ◌++◌, ◌↔◌, T, length, Float}
use Rattle.std.proofs.Math.Option.{none}
use Rattle.std.specs.Float.{binary64}
use Rattle.std.specs.Float.Ieee.{fits}
use Rattle.limits.specs.Limits.{most_events}
use Rattle.binary64.specs.Doubles.{plus_zero}
use Rattle.binary64.specs.Lists.{all, flat_map}
use Rattle.refusal.specs.Result.{Result, done}
use Rattle.linear_pk.specs.LinearPk.{sound, state_count}
use Rattle.linear_pk.specs.declared.kernel.LinearPk.{LinearPk}
use Rattle.protocol.specs.declared.Event.{Event}
use Rattle.protocol.specs.declared.Window.{Window}
use Rattle.protocol.specs.Events.{time}
use Rattle.protocol.specs.Prepare.{reckoned}
use Rattle.protocol.specs.Schedule.{schedule}
use Rattle.protocol.specs.Execute.{State, Outcome, go, begin, run_of}
use Rattle.protocol.specs.Entry.{Room, first_refusal, report_of, front_then_zeros, times_at_exit, sides_at_exit, values_at_exit}
use Rattle.protocol.specs.PlainRun.{stop_numbers, one_of, Cycle, FirstMet, advances_by, Reached, Budgeted}
use Rattle.protocol.specs.SamplesApart.{SamplesApart}
use Rattle.preparation.specs.Preparation.{own_number}
use Rattle.simulation.specs.KernelRun.{propagator_of, refusal_of}
use Rattle.simulation.specs.Entries.{room, simulate_entry, run_reply}
use Rattle.simulation_report.specs.Replies.{RunReply}

-- ---- a call
-- the cells of the lent slices
pub record Slices : Type 0 where
  pub times : List Float
  pub sides : List ℕ
  pub values : List Float

-- the arguments, with the slices at entry
pub record Call : Type 0 where
  pub kernel : LinearPk
  pub amounts : List Float
  pub window : Window
  pub events : List Event
  pub samples : List Float
  pub lent : Slices

abbrev pub call_states : Call → ℕ
call_states c = state_count c.kernel

abbrev pub reckoned_rows : Call → ℕ
reckoned_rows c = reckoned c.samples c.events

abbrev pub call_room : Call → Room
call_room c = room (length c.lent.times) (length c.lent.sides) (length c.lent.values)

abbrev pub entry_of : Call → Result Outcome
entry_of c = simulate_entry c.kernel c.amounts c.window c.events c.samples (call_room c)

-- the slices at exit for the outcome o
pub record AtExit (c : Call) (o : Result Outcome) (exit : Slices) : Type 0 where
  pub times : exit.times ≡ times_at_exit (reckoned_rows c) o c.lent.times
  pub sides : exit.sides ≡ sides_at_exit (reckoned_rows c) o c.lent.sides
  pub values : exit.values ≡ values_at_exit (reckoned_rows c) (call_states c) o c.lent.values

-- the contract of `simulate`: its reply r, and the slices at exit
pub record Contract (c : Call) (r : RunReply) (exit : Slices) : Type 0 where
  pub reply : run_reply r ≡ report_of (entry_of c)
  pub slices : AtExit c (entry_of c) exit

-- ---- what is given
-- the times are doubles
pub record TimesFit (c : Call) : Type 0 where
  pub start_fits : T (fits binary64 c.window.start)
  pub end_fits : T (fits binary64 c.window.end)
  pub samples_fit : T (all (fits binary64) c.samples)
  pub times_fit : T (all (λ (e : Event). fits binary64 (time e)) c.events)

-- no test ahead of the run refuses
pub record Passed (c : Call) : Type 0 where
  pub count : length c.events ≤ most_events
  pub tests : first_refusal (own_number (sound c.kernel)) (call_states c) c.window c.samples c.events c.amounts (call_room c) ≡ none

-- ---- what is claimed
-- 01's run
abbrev pub run_on : Call → Outcome
run_on c = run_of (propagator_of c.kernel) (call_states c) c.window c.samples c.events c.amounts

-- the first condition that 01's run meets is that of the number m, with the time t
abbrev pub FirstMetOn : Call → ℕ → Float → Type 0
FirstMetOn c m t =
    FirstMet (propagator_of c.kernel) (refusal_of c.kernel) c.window.propagations (begin c.amounts)
    (schedule (call_states c) c.window c.samples c.events) m t

-- 01's run reaches the end with the state z, and the call replies so: rows and advances of that run in the reply, its rows in the slices
pub record AtEnd (c : Call) (r : RunReply) (exit : Slices) (z : State) : Type 0 where
  pub reached : Reached (call_states c) c.window c.samples c.events z
  pub time : (run_reply r).time ≡ plus_zero
  pub rows : (run_reply r).rows ≡ length z.rows
  pub advances : (run_reply r).advances ≡ length z.advances
  pub slices : AtExit c (done (go z)) exit

-- 01's run stops at the refusing step, and the call replies so: no rows, the advances of the steps up to that one, reckoned rows of zeros
pub record AtStop (c : Call) (r : RunReply) (exit : Slices) (m : ℕ) (t : Float) (f : FirstMetOn c m t) : Type 0 where
  pub rows : (run_reply r).rows ≡ 0
  pub advances : (run_reply r).advances ≡ length (flat_map advances_by (f.ahead ++ (f.step ∷ [])))
  pub times : exit.times ≡ front_then_zeros plus_zero (reckoned_rows c) [] c.lent.times
  pub sides : exit.sides ≡ front_then_zeros 0 (reckoned_rows c) [] c.lent.sides
  pub values : exit.values ≡ front_then_zeros plus_zero (reckoned_rows c * call_states c) [] c.lent.values

pub record Replied (c : Call) (r : RunReply) (exit : Slices) : Type 0 where
  pub within : (run_reply r).rows ≤ reckoned_rows c
  -- 0 exactly where 01's run reaches the end
  pub zero : ((run_reply r).number ≡ 0) ↔ ((z : State) × (run_on c ≡ go z))
  pub ends : (z : State) → run_on c ≡ go z → AtEnd c r exit z
  -- a number above 0 with a time exactly where the first condition met is that of the number with that time
  pub above : (m : ℕ) (t : Float) → ((0 < m) × (((run_reply r).number ≡ m) × ((run_reply r).time ≡ t))) ↔ FirstMetOn c m t
  pub stops : (m : ℕ) (t : Float) (f : FirstMetOn c m t) → AtStop c r exit m t f
  -- advances: at most the budget, unless the number is 30; the budget and one then
  pub budgeted : Budgeted c.window.propagations (run_reply r).number (run_reply r).advances
  -- in a cycle one of these, and never 3
  pub cycle : Cycle c.window → T (one_of (run_reply r).number (0 ∷ stop_numbers))

-- two calls that differ in samples, budgets, tolerances and slices alone
pub record Apart (c c' : Call) : Type 0 where
  pub kernel : c.kernel ≡ c'.kernel
  pub amounts : c.amounts ≡ c'.amounts
  pub start : c.window.start ≡ c'.window.start
  pub end : c.window.end ≡ c'.window.end
  pub listed : c.events ≡ c'.events

-- the slices of both hold the rows of 01's runs, and these have the same boundary rows, and the same amounts in readings at equal times
pub record SameRows (c c' : Call) (exit exit' : Slices) : Type 0 where
  pub left : State
  pub left' : State
  pub ran : run_on c ≡ go left
  pub ran' : run_on c' ≡ go left'
  pub slices : AtExit c (done (go left)) exit
  pub slices' : AtExit c' (done (go left')) exit'
  pub rows : SamplesApart left left'

pub record EverySimulate : Type 0 where
  -- where no test ahead of the run refuses
  pub replied : (c : Call) (r : RunReply) (exit : Slices)
      → Contract c r exit
      → TimesFit c
      → Passed c
      → Replied c r exit
  -- a reply of 0 says that no test ahead refused
  pub passed : (c : Call) (r : RunReply) (exit : Slices) → Contract c r exit → (run_reply r).number ≡ 0 → Passed c
  -- of two that reach the end
  pub same_rows : (c c' : Call) (r r' : RunReply) (exit exit' : Slices)
      → Contract c r exit
      → Contract c' r' exit'
      → TimesFit c
      → TimesFit c'
      → Apart c c'
      → (run_reply r).number ≡ 0
      → (run_reply r').number ≡ 0
      → SameRows c c' exit exit'
