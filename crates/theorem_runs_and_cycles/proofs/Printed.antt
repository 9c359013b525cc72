-- What `rig-steady` prints: `every_printout`, from demand 3's claim about a closed cycle. Assumes nothing.
use mathlib.Core.Path.{◌≡◌, sym, ap, ◌∙◌, subst}
use Prim.Native.Nat.{ℕ, zero}
use mathlib.Core.Bool.{true}
use mathlib.Core.List.{List, [], ◌∷◌, ◌++◌}
use mathlib.Core.Logic.{◌⊎◌, inl, inr}
use lib.Dec.{T, eqb}
use lib.ListN.{length}
use lib.Ieee.{Float}
use Rattle.binary64.specs.Doubles.{plus_zero}
use Rattle.refusal.specs.Result.{Result, refused, done}
use Rattle.linear_pk.specs.LinearPk.{state_count}
use Rattle.linear_pk.specs.declared.kernel.LinearPk.{LinearPk}
use Rattle.protocol.specs.PlainRun.{one_of}
use Rattle.protocol.proofs.ListLaws.{or_right}
use Rattle.simulation.specs.KernelRun.{propagator_of}
use Rattle.events_layout.specs.Layout.{events_of}
use Rattle.cycle.specs.Closed.{Timed, stopped, got, then, untimed, last_post, residuals_of, SteadyState, closed, steady_report_of}
use Rattle.cycle.specs.ClosedCycle.{closed_numbers, CandidateAnswer, ClosedCycle}
use Rattle.sheet.specs.Sheet.{Sheet, read_sheet}
use Rattle.sheet_kernel.specs.Values.{sheet_window, model_of}
use Rattle.rig_run_sheet.specs.SheetRun.{doubles_of}
use Rattle.rig_run_sheet.proofs.Words.{times-made, start-made, end-made}
use Rattle.sheet_kernel.specs.CycleTolerance.{tolerance_of}
use Rattle.printout_steady.specs.SteadyPrintout.{state_lines, max_line, solved_text, steady_text}
use Rattle.printout_steady.specs.SteadyReplies.{steady_printout}
use Rattle.rig_steady_cycle.specs.SheetCycle.{steady_with}
use Rattle.rig_steady_cycle.proofs.Kept.{Sized, Kept, steady_kept}
use Rattle.rig_steady_sheet.specs.SteadySheet.{steady_sheet, steady_of_bytes, steady_printout_of_bytes}
use Rattle.sheet_kernel.proofs.Kernels.{model-sound}
use Rattle.theorem_runs_and_cycles.proofs.Demand3.{demand_3}
use Rattle.theorem_runs_and_cycles.proofs.Cases.{not_zero, positive, by_timed}
use Rattle.theorem_runs_and_cycles.specs.Printed.{candidate, YieldsOn, AcceptsOn, RejectsOn, PrintsAnswer, PrintsRefusal, PrintsCycle, Printed}

refusal : {m : ℕ} {t : Float} {o : Timed SteadyState} → o ≡ stopped m t → PrintsRefusal m t (steady_printout o)
unfolding steady_text
refusal e = record { number = ap (λ (o : Timed SteadyState). (steady_report_of o).number) e; text = ap steady_text e }

-- ---- the closed cycle of a sheet
module _ (s : Sheet) (k : LinearPk) (made : model_of s.model ≡ done k) where
  abbrev n : ℕ
  n = state_count k

  abbrev whole : Timed SteadyState
  whole = closed (propagator_of k) n (sheet_window s.window) (doubles_of s.samples) (events_of s.events) (tolerance_of s.window) true

  facts : ClosedCycle (propagator_of k) n (sheet_window s.window) (doubles_of s.samples) (events_of s.events) (tolerance_of s.window)
  facts =
      demand_3.closed-cycle k (model-sound s.model made) (sheet_window s.window) (doubles_of s.samples) (events_of s.events) (tolerance_of s.window)
      (record { start_fits = start-made s.window; end_fits = end-made s.window; times_fit = times-made s.events })

  kept : Kept n whole
  unfolding steady_with
  kept = steady_kept k s.window s.samples s.events (model-sound s.model made)

  -- 0 is the number of an answer
  at_zero : (steady_printout whole).number ≡ 0 → (x : SteadyState) × (whole ≡ got x)
  at_zero e = by_timed whole (λ m t d. not_zero (positive m (facts.numbers m t d)) (sym (refusal d).number ∙ e)) (λ x d. (x, d))

  answer : (a : List Float) (y : YieldsOn s k a) (h : AcceptsOn s k y.folded a) → PrintsAnswer s k a (last_post [] h.left.rows) (steady_printout whole)
  unfolding steady_text solved_text
  answer a y h =
      record {
        number = ap (λ (o : Timed SteadyState). (steady_report_of o).number) d;
        states = ap length (sym g.amounts) ∙ z.amounts;
        text =
            ap steady_text d
            ∙ ap (λ (xs : List Float). state_lines xs x.residuals ++ max_line x.maximum) g.amounts
            ∙ ap (λ (rs : List Float). state_lines a rs ++ max_line x.maximum) g.residuals
            ∙ ap (λ (m : Float). state_lines a (residuals_of n a end) ++ max_line m) g.maximum;
      }
    where
      end : List Float
      end = last_post [] h.left.rows

      x : SteadyState
      x = ((facts.accepts a y).1 h).0

      d : whole ≡ got x
      d = ((facts.accepts a y).1 h).1

      g : CandidateAnswer n (tolerance_of s.window) a end x
      g = facts.answer a y h x d

      z : Sized n x
      z = subst (Kept n) d kept

  rejected : (a : List Float) (y : YieldsOn s k a) → (AcceptsOn s k y.folded a → ⊥) → (m : ℕ) × (t : Float) × RejectsOn s k y.folded a m t
  rejected a y fails = by_timed whole (λ m t d. (m, t, (facts.rejects a y m t).0 d)) (λ x d. absurd (fails ((facts.accepts a y).0 (x, d))))

  yields : ((a : List Float) × YieldsOn s k a) ⊎ ((m : ℕ) × (t : Float) × (candidate s k ≡ stopped m t) × PrintsRefusal m t (steady_printout whole))
  yields =
      by_timed (candidate s k) (λ m t d. inr (m, t, d, refusal (facts.refuses m t d))) (λ a d. inl (a, (facts.yields a).0 d))

  numbers : T (one_of (steady_printout whole).number (0 ∷ closed_numbers))
  numbers =
      by_timed whole (λ m t d. rw (refusal d).number (or_right (eqb m 0) (one_of m closed_numbers) (facts.numbers m t d)))
      (λ x d. rw (ap (λ (o : Timed SteadyState). (steady_report_of o).number) d) tt)

  prints_cycle : PrintsCycle s k (steady_printout whole)
  prints_cycle = record {
    yields = yields;
    zero = λ a y. ((λ e. (facts.accepts a y).0 (at_zero e)), λ h. (answer a y h).number);
    answer = λ a y h. ((facts.ends a y h).0, answer a y h);
    rejected = rejected;
    refusal = λ a y m t h. refusal ((facts.rejects a y m t).1 h);
    needs = λ e. let x = at_zero e in (x.0.amounts, facts.needs x.0 x.1);
    numbers = numbers;
  }

-- ---- every byte string
module _ (bs : List ℕ) where
  read : (s : Sheet) → read_sheet bs ≡ done s → steady_of_bytes bs ≡ steady_sheet s
  unfolding steady_of_bytes
  read s e = ap (λ (r : Result Sheet). then (untimed r) steady_sheet) e

  unread : (m : ℕ) → read_sheet bs ≡ refused m → steady_of_bytes bs ≡ stopped m plus_zero
  unfolding steady_of_bytes
  unread m e = ap (λ (r : Result Sheet). then (untimed r) steady_sheet) e

  model : (s : Sheet) (r : Result LinearPk) → model_of s.model ≡ r
      → steady_sheet s ≡ then (untimed r) (λ (k : LinearPk). steady_with k s.window s.samples s.events)
  unfolding steady_sheet
  model s r e = ap (λ (r : Result LinearPk). then (untimed r) (λ (k : LinearPk). steady_with k s.window s.samples s.events)) e

  cycle : (s : Sheet) (k : LinearPk) → read_sheet bs ≡ done s → model_of s.model ≡ done k → PrintsCycle s k (steady_printout_of_bytes bs)
  unfolding steady_with
  cycle s k e p = subst (λ (o : Timed SteadyState). PrintsCycle s k (steady_printout o)) (sym (read s e ∙ model s (done k) p)) (prints_cycle s k p)

  pub every_printout : Printed bs (steady_printout_of_bytes bs)
  every_printout = record { unread = λ m e. refusal (unread m e); unmade = λ s m e p. refusal (read s e ∙ model s (refused m) p); cycle = cycle }
