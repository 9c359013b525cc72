-- Demand 3's claim about a closed cycle whose lent slices have room, over every propagator with the laws of a kernel, every window, list,
-- samples and tolerance. A claim, no proof.
use Rattle.std.specs.Prelude.{◌≡◌, ℕ, zero, suc, ◌<◌, true, not, List, [], ◌∷◌, ◌↔◌, T, length, get_or, replicate, Float}
use Rattle.std.specs.Float.{binary64}
use Rattle.std.specs.Float.Ieee.{fits, le}
use Rattle.std.specs.Float.Ieee.Scale.{finite}
use Rattle.binary64.specs.Doubles.{plus_zero, one, nonnegative, larger}
use Rattle.binary64.specs.Lists.{all}
use Rattle.matrix.specs.Matrix.{cell}
use Rattle.refusal.specs.Result.{done}
use Rattle.protocol.specs.declared.Event.{Event}
use Rattle.protocol.specs.declared.Window.{Window}
use Rattle.protocol.specs.Events.{time}
use Rattle.protocol.specs.Execute.{Propagator, State, go, stop, run_of}
use Rattle.protocol.specs.PlainRun.{one_of, Conditions, KernelLaws, Reached}
use Rattle.cycle.specs.declared.SteadyStateTolerance.{SteadyStateTolerance}
use Rattle.cycle.specs.Elimination.{system_of, solve}
use Rattle.cycle.specs.Closed.{Timed, stopped, got, divided, ready, homogeneous, last_post, unit, last_of, candidate_of, scale_of, scaled_of}
use Rattle.cycle.specs.Closed.{residuals_of, SteadyState, closed}

-- ---- what is given
-- the times are doubles
pub record TimesFit (w : Window) (es : List Event) : Type 0 where
  pub start_fits : T (fits binary64 w.start)
  pub end_fits : T (fits binary64 w.end)
  pub times_fit : T (all (λ (e : Event). fits binary64 (time e)) es)

-- ---- what is claimed
-- the numbers of a refusal: neither 3 nor 4 is among them
abbrev pub closed_numbers : List ℕ
closed_numbers = 10 ∷ 11 ∷ 12 ∷ 13 ∷ 14 ∷ 15 ∷ 16 ∷ 17 ∷ 18 ∷ 19 ∷ 20 ∷ 21 ∷ 22 ∷ 30 ∷ 31 ∷ 32 ∷ 33 ∷ 34 ∷ 35 ∷ 36 ∷ []

-- elimination yields the candidate c: neither 33 nor a refusal ahead of it comes up
pub record Yields (advance : Propagator) (n : ℕ) (w : Window) (ss : List Float) (es : List Event) (tol : SteadyStateTolerance) (c : List Float) : Type 0 where
  -- the list that was folded and prepared
  pub folded : List Event
  pub prepared : ready n w ss es tol ≡ got folded
  -- the last post row of the run from zero
  pub right : List Float
  pub from_zero : last_of advance n w folded (replicate n plus_zero) ≡ got right
  -- that of the run from each unit amount, with doses and resets zeroed
  pub columns : List (List Float)
  pub count : length columns ≡ n
  pub from_units : (j : ℕ) → j < n → last_of advance n w (homogeneous folded) (unit n j) ≡ got (get_or columns j [])
  pub solves : solve n (system_of n columns right) ≡ done c

-- when the candidate c of the folded list fs is accepted
pub record Accepts (advance : Propagator) (n : ℕ) (w : Window) (tol : SteadyStateTolerance) (fs : List Event) (c : List Float) : Type 0 where
  -- finite and at least 0
  pub passes : T (all nonnegative c)
  -- its own run reaches the end
  pub left : State
  pub reaches : run_of advance n (divided n w) [] fs c ≡ go left
  -- of each state, where start is the candidate and end the last post row of that run: the scale is finite, the scaled residual at most 1
  pub scales : (i : ℕ) → i < n → T (finite (scale_of tol (cell c i) (cell (last_post [] left.rows) i)))
  pub residuals : (i : ℕ) → i < n → T (le (scaled_of tol (cell c i) (cell (last_post [] left.rows) i)) one)

-- ---- which number a candidate gets that is not accepted
-- a state passes: its scale is finite, its scaled residual at most 1
pub record Small (tol : SteadyStateTolerance) (start end : Float) : Type 0 where
  pub scale : T (finite (scale_of tol start end))
  pub residual : T (le (scaled_of tol start end) one)

-- it fails, by 35 before 36
pub data Fails (tol : SteadyStateTolerance) (start end : Float) : ℕ → Type 0 where
  scale_fails : T (not (finite (scale_of tol start end))) → Fails tol start end 35
  residual_fails : T (finite (scale_of tol start end)) → T (not (le (scaled_of tol start end) one)) → Fails tol start end 36

-- the first of n states that fails does so by the number m, where the candidate is c and the last post row of its run e
pub record FirstFails (tol : SteadyStateTolerance) (c e : List Float) (n m : ℕ) : Type 0 where
  pub state : ℕ
  pub below : state < n
  pub ahead : (i : ℕ) → i < state → Small tol (cell c i) (cell e i)
  pub fails : Fails tol (cell c state) (cell e state) m

-- the candidate c of the folded list fs is refused with a number and a time
pub data Rejects (advance : Propagator) (n : ℕ) (w : Window) (tol : SteadyStateTolerance) (fs : List Event) (c : List Float) : ℕ → Float → Type 0 where
  -- 34 where it is not finite or below 0
  candidate_fails : T (not (all nonnegative c)) → Rejects advance n w tol fs c 34 plus_zero
  -- else the number and the time of its own run
  run-stops : {m : ℕ} {t : Float} {z : State}
      → T (all nonnegative c)
      → run_of advance n (divided n w) [] fs c ≡ stop m t z
      → Rejects advance n w tol fs c m t
  -- else 35 or 36 of the first state that fails
  state_fails : {m : ℕ} {z : State}
      → T (all nonnegative c)
      → run_of advance n (divided n w) [] fs c ≡ go z
      → FirstFails tol c (last_post [] z.rows) n m
      → Rejects advance n w tol fs c m plus_zero

-- ---- the answer
-- the greatest of the first k scaled residuals, from +0
unfoldable pub maximum_to : SteadyStateTolerance → List Float → List Float → ℕ → Float
maximum_to tol a e zero = plus_zero
maximum_to tol a e (suc k) = larger (maximum_to tol a e k) (scaled_of tol (cell a k) (cell e k))

-- the answer for the candidate c whose run ends with e
pub record CandidateAnswer (n : ℕ) (tol : SteadyStateTolerance) (c e : List Float) (s : SteadyState) : Type 0 where
  pub amounts : s.amounts ≡ c
  pub residuals : s.residuals ≡ residuals_of n c e
  pub maximum : s.maximum ≡ maximum_to tol c e n

-- ---- what is claimed of the closed cycle of a list, whose lent slices have room
module _ (advance : Propagator) (n : ℕ) (w : Window) (ss : List Float) (es : List Event) (tol : SteadyStateTolerance) where
  -- the answer, or the number and the time of a refusal
  abbrev reply : Timed SteadyState
  reply = closed advance n w ss es tol true

  -- elimination yields the candidate c
  abbrev Candidate : List Float → Type 0
  Candidate c = Yields advance n w ss es tol c

  -- the candidate c is accepted
  abbrev Accepted : (c : List Float) → Candidate c → Type 0
  Accepted c y = Accepts advance n w tol y.folded c

  pub record ClosedCycle : Type 0 where
    pub numbers : (c : ℕ) (t : Float) → reply ≡ stopped c t → T (one_of c closed_numbers)
    -- the candidate is what elimination yields
    pub yields : (c : List Float) → (candidate_of advance n w ss es tol ≡ got c) ↔ Candidate c
    -- where there is one, some answer is given exactly when the candidate is accepted
    pub accepts : (c : List Float) (y : Candidate c) → ((s : SteadyState) × (reply ≡ got s)) ↔ Accepted c y
    -- and the answer is the candidate, with the residuals of its own run
    pub answer : (c : List Float) (y : Candidate c) (a : Accepted c y) (s : SteadyState) → reply ≡ got s
        → CandidateAnswer n tol c (last_post [] a.left.rows) s
    -- and else the refusal is that of the first test that fails
    pub rejects : (c : List Float) (y : Candidate c) (m : ℕ) (t : Float) → (reply ≡ stopped m t) ↔ Rejects advance n w tol y.folded c m t
    -- no answer without a candidate
    pub needs : (s : SteadyState) → reply ≡ got s → Candidate s.amounts
    -- where there is none, the refusal ahead of it or 33 is the reply
    pub refuses : (c : ℕ) (t : Float) → candidate_of advance n w ss es tol ≡ stopped c t → reply ≡ stopped c t
    -- the run of an accepted candidate comes to the post row at the end, and that row holds the amounts it leaves
    pub ends : (c : List Float) (y : Candidate c) (a : Accepted c y)
        → Reached n (divided n w) [] y.folded a.left × (last_post [] a.left.rows ≡ a.left.amounts)

-- for every kernel with the laws of one, every window, samples, list and tolerance
abbrev pub EveryClosedCycle : Type 1
EveryClosedCycle =
    (n : ℕ) (advance : Propagator) (Refuses : Conditions)
    → KernelLaws n advance Refuses
    → (w : Window) (ss : List Float) (es : List Event) (tol : SteadyStateTolerance)
    → TimesFit w es
    → ClosedCycle advance n w ss es tol
