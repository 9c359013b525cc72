-- Demand 3 of what `periodic_steady_state` replies and leaves in the lent slices, for every call that meets its contract. Claims, no proof.
use Rattle.std.specs.Prelude.{◌≡◌, ℕ, ◌≤◌, ◌<◌, List, [], ◌∷◌, ◌++◌, ◌⊎◌, ◌↔◌, T, length, drop, Float, Result as Outcome}
use Rattle.limits.specs.Limits.{most_cycle_events, most_samples}
use Rattle.binary64.specs.Doubles.{plus_zero}
use Rattle.refusal.specs.Result.{done}
use Rattle.linear_pk.specs.LinearPk.{sound, state_count}
use Rattle.linear_pk.specs.declared.kernel.LinearPk.{LinearPk}
use Rattle.protocol.specs.declared.Event.{Event}
use Rattle.protocol.specs.declared.Window.{Window}
use Rattle.protocol.specs.PlainRun.{one_of, Reached}
use Rattle.simulation.specs.KernelRun.{propagator_of}
use Rattle.cycle.specs.declared.SteadyStateTolerance.{SteadyStateTolerance}
use Rattle.cycle.specs.Closed.{Timed, stopped, divided, last_post, candidate_of, residuals_of, SteadyState}
use Rattle.cycle.specs.ClosedCycle.{TimesFit, closed_numbers, Yields, Accepts, Rejects, maximum_to}
use Rattle.periodic_acceptance.specs.Replies.{SteadyAnswer}
use Rattle.periodic_acceptance.specs.Entry.{steady_room, steady_entry, steady_reply}
use Rattle.periodic_runs.specs.declared.Stop.{Stop}

-- ---- a call
-- the cells of the lent slices
pub record Slices : Type 0 where
  pub amounts : List Float
  pub residual : List Float

-- the arguments, with the slices at entry
pub record Call : Type 0 where
  pub kernel : LinearPk
  pub window : Window
  pub events : List Event
  pub samples : List Float
  pub tolerance : SteadyStateTolerance
  pub lent : Slices

abbrev pub call_states : Call → ℕ
call_states c = state_count c.kernel

abbrev pub entry_of : Call → Timed SteadyState
entry_of c =
    steady_entry c.kernel c.window c.samples c.events c.tolerance
    (steady_room c.kernel (length c.lent.amounts) (length c.lent.residual))

-- the greatest scaled residual, or a refusal with its time
abbrev pub SteadyReply : Type 0
SteadyReply = Outcome Float Stop

-- the contract of `periodic_steady_state`: its reply r, and the slices at exit
abbrev pub Contract : Call → SteadyReply → Slices → Type 0
Contract c r exit = SteadyAnswer (entry_of c) (steady_reply r) c.lent.amounts c.lent.residual exit.amounts exit.residual

-- ---- what is given
-- within the limits, a kernel that passes its own test, a cell for each state in both slices
pub record Passed (c : Call) : Type 0 where
  pub count : length c.events ≤ most_cycle_events
  pub samples : length c.samples ≤ most_samples
  pub kernel : sound c.kernel ≡ done c.kernel
  pub amounts : call_states c ≤ length c.lent.amounts
  pub residual : call_states c ≤ length c.lent.residual

-- ---- what is claimed
abbrev pub candidate : Call → Timed (List Float)
candidate c = candidate_of (propagator_of c.kernel) (call_states c) c.window c.samples c.events c.tolerance

-- elimination yields the candidate a
abbrev pub YieldsOn : Call → List Float → Type 0
YieldsOn c a = Yields (propagator_of c.kernel) (call_states c) c.window c.samples c.events c.tolerance a

-- the candidate a of the folded list fs is accepted
abbrev pub AcceptsOn : Call → List Event → List Float → Type 0
AcceptsOn c fs a = Accepts (propagator_of c.kernel) (call_states c) c.window c.tolerance fs a

-- it is refused with the number m and the time t
abbrev pub RejectsOn : Call → List Event → List Float → ℕ → Float → Type 0
RejectsOn c fs a m t = Rejects (propagator_of c.kernel) (call_states c) c.window c.tolerance fs a m t

-- the candidate a, whose own run ends with e, is the answer: it and its residuals stand in front of the old cells
pub record AtAnswer (c : Call) (r : SteadyReply) (exit : Slices) (a e : List Float) : Type 0 where
  pub time : (steady_reply r).time ≡ plus_zero
  pub maximum : (steady_reply r).maximum ≡ maximum_to c.tolerance a e (call_states c)
  pub amounts : exit.amounts ≡ a ++ drop (call_states c) c.lent.amounts
  pub residual : exit.residual ≡ residuals_of (call_states c) a e ++ drop (call_states c) c.lent.residual

-- the call is refused with the number m and the time t, and the slices are as they were
pub record AtRefusal (c : Call) (r : SteadyReply) (exit : Slices) (m : ℕ) (t : Float) : Type 0 where
  pub number : (steady_reply r).number ≡ m
  pub time : (steady_reply r).time ≡ t
  pub maximum : (steady_reply r).maximum ≡ plus_zero
  pub slices : exit ≡ c.lent

pub record Replied (c : Call) (r : SteadyReply) (exit : Slices) : Type 0 where
  -- elimination yields a candidate, or the refusal ahead of it, or 33, is the reply
  pub yields : ((a : List Float) × YieldsOn c a) ⊎ ((m : ℕ) × (t : Float) × (candidate c ≡ stopped m t) × AtRefusal c r exit m t)
  -- where it yields one, 0 exactly when that is accepted
  pub zero : (a : List Float) (y : YieldsOn c a) → ((steady_reply r).number ≡ 0) ↔ AcceptsOn c y.folded a
  -- then its run comes to the post row at the end, and the answer is the candidate with the residuals of that run
  pub answer : (a : List Float) (y : YieldsOn c a) (h : AcceptsOn c y.folded a)
      → Reached (call_states c) (divided (call_states c) c.window) [] y.folded h.left × AtAnswer c r exit a (last_post [] h.left.rows)
  -- a number above 0 with a time exactly where the candidate is refused so
  pub above : (a : List Float) (y : YieldsOn c a) (m : ℕ) (t : Float)
      → ((0 < m) × (((steady_reply r).number ≡ m) × ((steady_reply r).time ≡ t))) ↔ RejectsOn c y.folded a m t
  -- no 0 without a candidate
  pub needs : (steady_reply r).number ≡ 0 → (a : List Float) × YieldsOn c a
  -- one of these, and never 3 or 4
  pub numbers : T (one_of (steady_reply r).number (0 ∷ closed_numbers))

pub record EverySteadyState : Type 0 where
  -- within the limits, of a kernel that passes its own test, with room for the answer
  pub replied : (c : Call) (r : SteadyReply) (exit : Slices)
      → Contract c r exit
      → TimesFit c.window c.events
      → Passed c
      → Replied c r exit
  -- at every number above 0 the slices are as they were
  pub unchanged : (c : Call) (r : SteadyReply) (exit : Slices) → Contract c r exit → 0 < (steady_reply r).number
      → AtRefusal c r exit (steady_reply r).number (steady_reply r).time
