-- What a closed cycle answers: the tests ahead of it one after the other, its own chain, and the slices.
use mathlib.Core.Path.{◌≡◌, sym, ap, ◌∙◌, subst}
use mathlib.Core.Bool.{Bool, true, false, ◌&&◌}
use mathlib.Core.List.{List, ◌++◌}
use Prim.Native.Nat.{ℕ, ◌≤◌}
use lib.Dec.{leb}
use lib.ListN.{length, drop}
use lib.Ieee.{Float}
use Rattle.std.specs.Prelude.{Ok, Err}
use Rattle.limits.specs.Limits.{states, most_cycle_events, most_events, most_samples}
use Rattle.binary64.specs.Doubles.{plus_zero}
use Rattle.refusal.specs.Result.{refused, done}
use Rattle.refusal.specs.Numbers.{refusal_number}
use Rattle.linear_pk.specs.LinearPk.{sound, state_count}
use Rattle.linear_pk.specs.declared.kernel.LinearPk.{LinearPk}
use Rattle.protocol.specs.Execute.{Propagator}
use Rattle.protocol.specs.declared.Event.{Event}
use Rattle.protocol.specs.declared.Window.{Window}
use Rattle.simulation.specs.KernelRun.{propagator_of}
use Rattle.cycle.specs.declared.SteadyStateTolerance.{SteadyStateTolerance}
use Rattle.cycle.specs.Closed.{Timed, stopped, got, then, unless_fails, ready, solution, SteadyState, accepted, closed}
use Rattle.cycle.specs.Closed.{SteadyReport, steady_report_of, answer_at_exit}
use Rattle.cycle.specs.ClosedCycle.{closed_numbers}
use Rattle.cycle.proofs.InnerRuns.{Ready, ready_hands}
use Rattle.cycle.proofs.Results.{hands_got}
use Rattle.periodic_runs.specs.Ends.{Runs}
use Rattle.periodic_runs.specs.declared.Stop.{Stop}
use Rattle.periodic_acceptance.specs.Entry.{steady_entry, steady_reply}
use Rattle.periodic_acceptance.specs.Replies.{SteadyAnswer}

-- ---- a refusal leaves the slices as they were; an answer stands at their front
pub refuses : {o : Timed SteadyState} (x : Stop) (a e : List Float) → stopped (refusal_number x.refusal) x.time ≡ o
    → SteadyAnswer o (steady_reply (Err x)) a e a e
refuses x a e p = record {
  reply = ap steady_report_of p;
  amounts = ap (λ (x : Timed SteadyState). answer_at_exit (λ s. s.amounts) x a) p;
  residuals = ap (λ (x : Timed SteadyState). answer_at_exit (λ s. s.residuals) x e) p;
}

pub solves : {o : Timed SteadyState} (s : SteadyState) (a e : List Float) {a' e' : List Float} → got s ≡ o
    → a' ≡ s.amounts ++ drop (length s.amounts) a → e' ≡ s.residuals ++ drop (length s.residuals) e
    → SteadyAnswer o (steady_reply (Ok s.maximum)) a e a' e'
solves s a e p q r = record {
  reply = ap steady_report_of p;
  amounts = q ∙ ap (λ (x : Timed SteadyState). answer_at_exit (λ s. s.amounts) x a) p;
  residuals = r ∙ ap (λ (x : Timed SteadyState). answer_at_exit (λ s. s.residuals) x e) p;
}

pub answers_as : {o o' : Timed SteadyState} {r : SteadyReport} {a e a' e' : List Float} → o ≡ o' → SteadyAnswer o r a e a' e'
    → SteadyAnswer o' r a e a' e'
answers_as {o} {o'} {r} {a} {e} {a'} {e'} p h = subst (λ (x : Timed SteadyState). SteadyAnswer x r a e a' e') p h

-- ---- what the runs ask of the folded list
pub folded_runs :
    (k : LinearPk) (n : ℕ) (w : Window) (ss : List Float) (es : List Event) (tol : SteadyStateTolerance) {fs : List Event} → n ≡ state_count k
    → n ≤ states → got fs ≡ ready n w ss es tol → length fs ≤ most_events → Runs k n w fs
folded_runs k n w ss es tol {fs} c s r l =
    let passed : Ready n w es tol fs = hands_got closed_numbers (Ready n w es tol) (ready n w ss es tol) fs (ready_hands n w ss es tol) (sym r) in
    record { count = c; states = s; few = l; passes = passed.prepared }

-- ---- behind them
module _ (advance : Propagator) (n : ℕ) (w : Window) (tol : SteadyStateTolerance) (fs : List Event) where
  -- 4, the candidate, its acceptance
  abbrev pub room_then : Bool → Timed SteadyState
  room_then room = then (unless_fails room 4 fs) (λ fs. then (solution advance n w fs) (accepted advance n w tol fs))

  pub room-stops : {room : Bool} → room ≡ false → stopped 4 plus_zero ≡ room_then room
  room-stops h = rw h

  module _ {room : Bool} (h : room ≡ true) where
    pub candidate_none : {c : ℕ} {t : Float} → stopped c t ≡ solution advance n w fs → stopped c t ≡ room_then room
    candidate_none e = rw (h, ← e)

    pub candidate_some : {a : List Float} {o : Timed SteadyState} → got a ≡ solution advance n w fs → o ≡ accepted advance n w tol fs a → o ≡ room_then room
    candidate_some e q = rw (h, ← e) q

module _ (advance : Propagator) (n : ℕ) (w : Window) (ss : List Float) (es : List Event) (tol : SteadyStateTolerance) (room : Bool) where
  pub closed-stops : {c : ℕ} {t : Float} → stopped c t ≡ ready n w ss es tol → stopped c t ≡ closed advance n w ss es tol room
  unfolding closed
  closed-stops e = rw (← e)

  pub closed_goes : {fs : List Event} → got fs ≡ ready n w ss es tol → room_then advance n w tol fs room ≡ closed advance n w ss es tol room
  unfolding closed
  closed_goes e = rw (← e)

-- ---- the entry
module _ (k : LinearPk) (w : Window) (ss : List Float) (es : List Event) (tol : SteadyStateTolerance) (room : Bool) where
  pub limit_stops : (leb (length es) most_cycle_events && leb (length ss) most_samples) ≡ false → stopped 5 plus_zero ≡ steady_entry k w ss es tol room
  unfolding steady_entry
  limit_stops h = rw h

  module _ (h : (leb (length es) most_cycle_events && leb (length ss) most_samples) ≡ true) where
    pub kernel-stops : {c : ℕ} → refused c ≡ sound k → stopped c plus_zero ≡ steady_entry k w ss es tol room
    unfolding steady_entry
    kernel-stops e = rw (h, ← e)

    pub entry_goes : done k ≡ sound k → closed (propagator_of k) (state_count k) w ss es tol room ≡ steady_entry k w ss es tol room
    unfolding steady_entry
    entry_goes e = rw (h, ← e)
