-- 01, "The closed cycle": from the list of a cycle to the candidate, and from that to amounts, residuals and the greatest scaled one, or a refusal.
-- Rust: `periodic_steady_state`, linear_pk/steady_state.rs. The kernel's advance is a parameter, n its states. 5 and the kernel's own
-- numbers stand with the library's entry. Definitions only.
use Prim.Native.Nat.{ℕ, zero, suc, ◌+◌, ◌/◌}
use Rattle.std.specs.Prelude.{Bool, true, false, not, ◌&&◌, length, set, replicate, drop, Float}
use mathlib.Core.List.{List, [], ◌∷◌, ◌++◌, map}
use Rattle.std.proofs.Math.Option.{Option, some, none}
use Rattle.std.specs.Float.{binary64}
use Rattle.std.specs.Float.Ieee.{add, sub, mul, div, lt}
use Rattle.std.specs.Float.Ieee.Scale.{finite}
use Rattle.binary64.specs.Doubles.{plus_zero, one, nonnegative, positive, magnitude, larger}
use Rattle.binary64.specs.Lists.{all}
use Rattle.matrix.specs.Matrix.{tabulate, cell}
use Rattle.refusal.specs.Result.{Result, refused, done}
use Rattle.protocol.specs.declared.Event.{Event}
use Rattle.protocol.specs.declared.Event.TheVariants.{Bolus, Infusion, Reset}
use Rattle.protocol.specs.declared.Window.{Window}
use Rattle.protocol.specs.Prepare.{prepare}
use Rattle.protocol.specs.Execute.{Propagator, Pre, Post, Reading, Row, Outcome, go, stop, run_of}
use Rattle.cycle.specs.declared.SteadyStateTolerance.{SteadyStateTolerance}
use Rattle.cycle.specs.Fold.{fold}
use Rattle.cycle.specs.Elimination.{system_of, solve}

-- a refusal's number and time, or what is handed on
pub data Timed (A : Type 0) : Type 0 where
  stopped : ℕ → Float → Timed A
  got : A → Timed A

abbrev pub then : {A B : Type 0} → Timed A → (A → Timed B) → Timed B
then (stopped c t) f = stopped c t
then (got a) f = f a

-- a refusal with the time +0
abbrev pub untimed : {A : Type 0} → Result A → Timed A
untimed (refused c) = stopped c plus_zero
untimed (done a) = got a

abbrev pub unless_fails : {A : Type 0} → Bool → ℕ → A → Timed A
unless_fails false c a = stopped c plus_zero
unless_fails true c a = got a

abbrev pub unless_number : {A : Type 0} → Option ℕ → A → Timed A
unless_number none a = got a
unless_number (some c) a = stopped c plus_zero

-- ---- ahead of the runs
-- 19 unless absolute is finite and above 0, relative finite and not below 0
unfoldable pub tolerance_passes : SteadyStateTolerance → Bool
tolerance_passes tol = positive tol.absolute && nonnegative tol.relative

-- each budget divided by n + 2
unfoldable pub divided : ℕ → Window → Window
divided n w = record {
  start = w.start;
  end = w.end;
  rtol = w.rtol;
  atol = w.atol;
  propagations = w.propagations / (n + 2);
  events = w.events / (n + 2);
  outputs = w.outputs / (n + 2);
}

-- 19; the fold; the preparation of its list without samples, on the divided budgets: the folded list
unfoldable pub ready : ℕ → Window → List Float → List Event → SteadyStateTolerance → Timed (List Event)
unfolding tolerance_passes fold prepare divided
ready n w ss es tol =
    then (unless_fails (tolerance_passes tol) 19 es)
    (λ es. then (untimed (fold n w ss es)) (λ fs. unless_number (prepare n (divided n w) [] fs) fs))

-- ---- the runs
-- doses and resets zeroed
unfoldable pub zeroed : Event → Event
zeroed (Bolus t i a) = Bolus t i plus_zero
zeroed (Infusion t i a d) = Infusion t i plus_zero d
zeroed (Reset t i v o c) = Reset t i plus_zero o c

unfoldable pub homogeneous : List Event → List Event
unfolding zeroed
homogeneous es = map zeroed es

-- the amounts of the last post row, a where there is none
unfoldable pub last_post : List Float → List Row → List Float
last_post a [] = a
last_post a (r ∷ rs) = last_post (elim r.side [ Pre ↦ a | Post ↦ r.amounts | Reading ↦ a ]) rs

abbrev pub end_of : Outcome → Timed (List Float)
end_of (go z) = got (last_post [] z.rows)
end_of (stop c t z) = stopped c t

-- one amount of 1
unfoldable pub unit : ℕ → ℕ → List Float
unit n j = set (replicate n plus_zero) j one

module _ (advance : Propagator) (n : ℕ) (w : Window) where
  -- the last post row of the run of the list from these amounts
  unfoldable pub last_of : List Event → List Float → Timed (List Float)
  unfolding run_of last_post divided
  last_of fs a = end_of (run_of advance n (divided n w) [] fs a)

  -- the columns of the first k unit amounts
  unfoldable pub columns_to : List Event → ℕ → Timed (List (List Float))
  unfolding homogeneous unit
  columns_to fs zero = got []
  columns_to fs (suc k) = then (columns_to fs k) (λ cs. then (last_of (homogeneous fs) (unit n k)) (λ c. got (cs ++ (c ∷ []))))

  -- the run from zero, then from each unit amount; elimination, with 33
  unfoldable pub solution : List Event → Timed (List Float)
  unfolding columns_to solve system_of
  solution fs =
      then (last_of fs (replicate n plus_zero))
      (λ b. then (columns_to fs n) (λ cs. untimed (solve n (system_of n cs b))))

  -- what elimination yields where neither 33 nor a refusal ahead of it comes up
  unfoldable pub candidate_of : List Float → List Event → SteadyStateTolerance → Timed (List Float)
  unfolding ready
  candidate_of ss es tol = then (ready n w ss es tol) solution

-- ---- residuals
-- absolute + relative·max(|start|, |end|)
unfoldable pub scale_of : SteadyStateTolerance → Float → Float → Float
unfolding magnitude larger
scale_of tol start end = add binary64 tol.absolute (mul binary64 tol.relative (larger (magnitude start) (magnitude end)))

-- |end − start| over the scale
unfoldable pub scaled_of : SteadyStateTolerance → Float → Float → Float
unfolding scale_of
scaled_of tol start end = div binary64 (magnitude (sub binary64 end start)) (scale_of tol start end)

-- one state more: 35, 36, and the greater of the greatest so far and its own
unfoldable pub judged : SteadyStateTolerance → Float → Float → Float → Timed Float
unfolding scaled_of
judged tol start end m =
    then (unless_fails (finite (scale_of tol start end)) 35 m)
    (λ m. unless_fails (finite (scaled_of tol start end) && not (lt one (scaled_of tol start end))) 36 (larger m (scaled_of tol start end)))

-- the greatest scaled residual of the first k states, from +0
unfoldable pub checked_maximum_to : SteadyStateTolerance → List Float → List Float → ℕ → Timed Float
unfolding judged
checked_maximum_to tol a e zero = got plus_zero
checked_maximum_to tol a e (suc k) = then (checked_maximum_to tol a e k) (judged tol (cell a k) (cell e k))

-- end minus start
unfoldable pub residuals_of : ℕ → List Float → List Float → List Float
residuals_of n a e = tabulate n (λ i. sub binary64 (cell e i) (cell a i))

pub record SteadyState : Type 0 where
  pub amounts : List Float
  pub residuals : List Float
  pub maximum : Float

-- 34; the candidate's run; state by state 35 and 36
unfoldable pub accepted : Propagator → ℕ → Window → SteadyStateTolerance → List Event → List Float → Timed SteadyState
unfolding last_of checked_maximum_to residuals_of
accepted advance n w tol fs a =
    then (unless_fails (all nonnegative a) 34 a)
    (λ a. then (last_of advance n w fs a)
    (λ e. then (checked_maximum_to tol a e n) (λ m. got (record { amounts = a; residuals = residuals_of n a e; maximum = m }))))

-- `room` says whether the lent slices have n cells each: 4 comes behind the preparation
unfoldable pub closed : Propagator → ℕ → Window → List Float → List Event → SteadyStateTolerance → Bool → Timed SteadyState
unfolding ready solution accepted
closed advance n w ss es tol room =
    then (ready n w ss es tol)
    (λ fs. then (unless_fails room 4 fs) (λ fs. then (solution advance n w fs) (accepted advance n w tol fs)))

-- ---- the reply, and the slices at exit
-- 0 is the number of an accepted cycle
pub record SteadyReport : Type 0 where
  pub number : ℕ
  pub time : Float
  pub maximum : Float

abbrev pub steady_report_of : Timed SteadyState → SteadyReport
steady_report_of (stopped c t) = record { number = c; time = t; maximum = plus_zero }
steady_report_of (got s) = record { number = 0; time = plus_zero; maximum = s.maximum }

-- the answer from the front and the old cells behind it; all old cells at a refusal
abbrev pub answer_at_exit : (SteadyState → List Float) → Timed SteadyState → List Float → List Float
answer_at_exit part (stopped c t) old = old
answer_at_exit part (got s) old = part s ++ drop (length (part s)) old
