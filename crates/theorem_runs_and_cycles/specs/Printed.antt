-- Demand 3 of what `rig-steady` prints, over every byte string: the printed amounts and residuals are the candidate and those of its own run. Claims, no proof.
use Rattle.std.specs.Prelude.{◌≡◌, ℕ, List, [], ◌∷◌, ◌++◌, ◌⊎◌, ◌↔◌, T, length, Float}
use Rattle.binary64.specs.Doubles.{plus_zero}
use Rattle.refusal.specs.Result.{refused, done}
use Rattle.linear_pk.specs.LinearPk.{state_count}
use Rattle.linear_pk.specs.declared.kernel.LinearPk.{LinearPk}
use Rattle.protocol.specs.declared.Event.{Event}
use Rattle.protocol.specs.PlainRun.{one_of, Reached}
use Rattle.simulation.specs.KernelRun.{propagator_of}
use Rattle.events_layout.specs.Layout.{events_of}
use Rattle.cycle.specs.Closed.{Timed, stopped, divided, last_post, candidate_of, residuals_of}
use Rattle.cycle.specs.ClosedCycle.{closed_numbers, Yields, Accepts, Rejects, maximum_to}
use Rattle.sheet.specs.Sheet.{Sheet, read_sheet}
use Rattle.sheet_kernel.specs.Values.{sheet_window, model_of}
use Rattle.rig_run_sheet.specs.SheetRun.{doubles_of}
use Rattle.sheet_kernel.specs.CycleTolerance.{tolerance_of}
use Rattle.printout.specs.Printout.{refused_text}
use Rattle.printout.specs.Printouts.{Printout}
use Rattle.printout_steady.specs.SteadyPrintout.{state_lines, max_line}

-- ---- the closed cycle of a sheet s, whose kernel is k
module _ (s : Sheet) (k : LinearPk) where
  abbrev pub candidate : Timed (List Float)
  candidate = candidate_of (propagator_of k) (state_count k) (sheet_window s.window) (doubles_of s.samples) (events_of s.events) (tolerance_of s.window)

  -- elimination yields the candidate a
  abbrev pub YieldsOn : List Float → Type 0
  YieldsOn a = Yields (propagator_of k) (state_count k) (sheet_window s.window) (doubles_of s.samples) (events_of s.events) (tolerance_of s.window) a

  -- the candidate a of the folded list fs is accepted
  abbrev pub AcceptsOn : List Event → List Float → Type 0
  AcceptsOn fs a = Accepts (propagator_of k) (state_count k) (sheet_window s.window) (tolerance_of s.window) fs a

  -- it is refused with the number m and the time t
  abbrev pub RejectsOn : List Event → List Float → ℕ → Float → Type 0
  RejectsOn fs a m t = Rejects (propagator_of k) (state_count k) (sheet_window s.window) (tolerance_of s.window) fs a m t

  -- p is the printout of the answer a, whose own run ends with e: a line of amount and residual for each state, then `max` and the greatest scaled residual
  pub record PrintsAnswer (a e : List Float) (p : Printout) : Type 0 where
    pub number : p.number ≡ 0
    pub states : length a ≡ state_count k
    pub text : p.text ≡ state_lines a (residuals_of (state_count k) a e) ++ max_line (maximum_to (tolerance_of s.window) a e (state_count k))

-- p is the printout of the refusal by the number m with the time t
pub record PrintsRefusal (m : ℕ) (t : Float) (p : Printout) : Type 0 where
  pub number : p.number ≡ m
  pub text : p.text ≡ refused_text m t

-- ---- what is claimed of the printout p of a closed cycle
pub record PrintsCycle (s : Sheet) (k : LinearPk) (p : Printout) : Type 0 where
  -- elimination yields a candidate, or the refusal ahead of it, or 33, is printed
  pub yields : ((a : List Float) × YieldsOn s k a) ⊎ ((m : ℕ) × (t : Float) × (candidate s k ≡ stopped m t) × PrintsRefusal m t p)
  -- where it yields one, an answer is printed exactly when that is accepted
  pub zero : (a : List Float) (y : YieldsOn s k a) → (p.number ≡ 0) ↔ AcceptsOn s k y.folded a
  -- then its run comes to the post row at the end, and the candidate and the residuals of that run are printed
  pub answer : (a : List Float) (y : YieldsOn s k a) (h : AcceptsOn s k y.folded a)
      → Reached (state_count k) (divided (state_count k) (sheet_window s.window)) [] y.folded h.left × PrintsAnswer s k a (last_post [] h.left.rows) p
  -- where it is not accepted it is refused, by 34, its run, 35 or 36, and that refusal is printed
  pub rejected : (a : List Float) (y : YieldsOn s k a) → (AcceptsOn s k y.folded a → ⊥) → (m : ℕ) × (t : Float) × RejectsOn s k y.folded a m t
  pub refusal : (a : List Float) (y : YieldsOn s k a) (m : ℕ) (t : Float) → RejectsOn s k y.folded a m t → PrintsRefusal m t p
  -- no answer without a candidate
  pub needs : p.number ≡ 0 → (a : List Float) × YieldsOn s k a
  -- one of these, and never 3 or 4
  pub numbers : T (one_of p.number (0 ∷ closed_numbers))

-- ---- what is claimed of the printout p of the bytes bs
pub record Printed (bs : List ℕ) (p : Printout) : Type 0 where
  -- 40 and 5: the sheet is not read
  pub unread : (m : ℕ) → read_sheet bs ≡ refused m → PrintsRefusal m plus_zero p
  -- 1 and 2: its kernel is not made
  pub unmade : (s : Sheet) (m : ℕ) → read_sheet bs ≡ done s → model_of s.model ≡ refused m → PrintsRefusal m plus_zero p
  pub cycle : (s : Sheet) (k : LinearPk) → read_sheet bs ≡ done s → model_of s.model ≡ done k → PrintsCycle s k p
