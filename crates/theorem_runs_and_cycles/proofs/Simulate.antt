-- Demand 3 of what `simulate` replies and leaves: `every_simulate`, from its contract. Assumes nothing.
use mathlib.Core.Path.{◌≡◌, refl, sym, ap, ap₂, ◌∙◌, subst}
use Prim.Native.Nat.{ℕ, zero, ◌≤◌, ◌<◌, zero-le}
use native.Mathlib.Omega.{arith}
use mathlib.Core.List.{List, ◌∷◌}
use mathlib.Core.Option.{Option, some, none}
use mathlib.Core.Logic.{◌⊎◌, inl, inr}
use lib.Dec.{T, leb, leb→le, eqb}
use lib.ListN.{length}
use lib.Ieee.{Float}
use Rattle.limits.specs.Limits.{most_events}
use Rattle.refusal.specs.Result as R
use Rattle.linear_pk.specs.LinearPk.{sound, state_count}
use Rattle.linear_pk.specs.declared.kernel.LinearPk.{LinearPk}
use Rattle.protocol.specs.declared.Event.{Event}
use Rattle.protocol.specs.Prepare.{within}
use Rattle.protocol.specs.Execute.{State, Outcome, go, stop, run_of}
use Rattle.protocol.specs.Entry.{first_refusal, RunReport, report_of}
use Rattle.protocol.specs.PlainRun.{stop_numbers, one_of, Cycle, Prepared, rows_left, Budgeted, PlainRun}
use Rattle.protocol.proofs.Conditions.{meets-above}
use Rattle.protocol.specs.SamplesApart.{SamplesApart}
use Rattle.protocol.proofs.ListLaws.{both, or_right}
use Rattle.protocol.proofs.EntryLaws.{Passes, ahead_none, simulate_runs, simulate-refuses}
use Rattle.preparation.specs.Preparation.{own_number}
use Rattle.preparation.proofs.Positive.{Positive, ahead-positive}
use Rattle.simulation.proofs.Whole.{own_none}
use Rattle.simulation.specs.KernelRun.{propagator_of, refusal_of}
use Rattle.simulation.specs.Entries.{simulate_entry, run_reply}
use Rattle.simulation_report.specs.Replies.{RunReply}
use Rattle.theorem_runs_and_cycles.specs.Simulate.{Slices, Call, call_states, reckoned_rows, call_room, entry_of, AtExit}
use Rattle.theorem_runs_and_cycles.specs.Simulate.{Contract, TimesFit, Passed, run_on, FirstMetOn, AtEnd, AtStop, Replied, Apart}
use Rattle.theorem_runs_and_cycles.specs.Simulate.{EverySimulate}
use Rattle.theorem_runs_and_cycles.proofs.Demand3.{demand_3}
use Rattle.theorem_runs_and_cycles.proofs.Cases.{not_zero, by_outcome}

-- ---- one call
module _ (c : Call) where
  abbrev own : Option ℕ
  own = own_number (sound c.kernel)

  -- the run begins
  began : Passed c → entry_of c ≡ R.done (run_on c)
  unfolding simulate_entry
  began p = simulate_runs (propagator_of c.kernel) own (call_states c) c.window c.samples c.events c.amounts (call_room c) p.tests

  passes : Passed c → Passes own (call_states c) c.window c.samples c.events c.amounts (call_room c)
  passes p = ahead_none own (call_states c) c.window c.samples c.events c.amounts (call_room c) p.tests

  prepared : TimesFit c → Passed c → Prepared (call_states c) c.window c.samples c.events
  prepared f p =
      record { start_fits = f.start_fits; end_fits = f.end_fits; samples_fit = f.samples_fit; times_fit = f.times_fit; passes = (passes p).prepared }

  plain : TimesFit c → Passed c → PlainRun (propagator_of c.kernel) (refusal_of c.kernel) (call_states c) c.window c.samples
      c.events c.amounts
  plain f p =
      demand_3.plain_run c.kernel (own_none c.kernel (passes p).kernel) c.window c.samples c.events (prepared f p)
      c.amounts (passes p).amounts

  module _ (r : RunReply) (exit : Slices) (q : Contract c r exit) where
    -- a reply of 0 is no refusal ahead
    passed : (run_reply r).number ≡ 0 → Passed c
    unfolding simulate_entry
    passed e = record { count = leb→le (length c.events) most_events (both _ _ (ahead_none own _ _ _ _ _ _ tests).limits).0; tests = tests }
      where
        on : (o : Option ℕ) → first_refusal own (call_states c) c.window c.samples c.events c.amounts (call_room c) ≡ o
            → first_refusal own (call_states c) c.window c.samples c.events c.amounts (call_room c) ≡ none
        on none d = d
        on (some m) d =
            not_zero (subst Positive d (ahead-positive c.kernel (call_states c) c.window c.samples c.events c.amounts (call_room c)))
            (sym (ap (λ (x : RunReport). x.number) q.reply
            ∙ ap (λ (x : R.Result Outcome). (report_of x).number) (simulate-refuses (propagator_of c.kernel) own (call_states c) c.window
            c.samples c.events c.amounts (call_room c) m d)) ∙ e)

        tests : first_refusal own (call_states c) c.window c.samples c.events c.amounts (call_room c) ≡ none
        tests = on _ refl

    module _ (f : TimesFit c) (p : Passed c) where
      -- the reply and the slices are those of the run's outcome
      reply-at : (o : Outcome) → run_on c ≡ o → run_reply r ≡ report_of (R.done o)
      reply-at o e = q.reply ∙ ap report_of (began p ∙ ap R.done e)

      number-at : (o : Outcome) → run_on c ≡ o → (run_reply r).number ≡ (report_of (R.done o)).number
      number-at o e = ap (λ (x : RunReport). x.number) (reply-at o e)

      slices-at : (o : Outcome) → run_on c ≡ o → AtExit c (R.done o) exit
      slices-at o e = subst (λ (x : R.Result Outcome). AtExit c x exit) (began p ∙ ap R.done e) q.slices

      run : PlainRun (propagator_of c.kernel) (refusal_of c.kernel) (call_states c) c.window c.samples c.events c.amounts
      run = plain f p

      few : (o : Outcome) → length (rows_left o) ≤ reckoned_rows c → (report_of (R.done o)).rows ≤ reckoned_rows c
      few (go z) h = h
      few (stop m t z) h = zero-le

      at_zero : (run_reply r).number ≡ 0 → (z : State) × (run_on c ≡ go z)
      at_zero e =
          by_outcome (run_on c)
          (λ m t z d. not_zero (meets-above ((run.exact m t).0 (z, d)).meets) (sym (number-at (stop m t z) d) ∙ e))
          (λ z d. (z, d))

      ends : (z : State) → run_on c ≡ go z → AtEnd c r exit z
      ends z e =
          let y = reply-at (go z) e in
          record {
            reached = run.reached z e;
            time = ap (λ (x : RunReport). x.time) y;
            rows = ap (λ (x : RunReport). x.rows) y;
            advances = ap (λ (x : RunReport). x.advances) y;
            slices = slices-at (go z) e;
          }

      met : (m : ℕ) (t : Float) → 0 < m → (run_reply r).number ≡ m → (run_reply r).time ≡ t → FirstMetOn c m t
      met m t l a b =
          by_outcome (run_on c)
          (λ j u z d.
          (run.exact m t).0 (
            z,
            d ∙ ap₂ (λ (i : ℕ) (v : Float). stop i v z) (sym (number-at (stop j u z) d) ∙ a)
                (sym (ap (λ (x : RunReport). x.time) (reply-at (stop j u z) d)) ∙ b),
          ))
          (λ z d. not_zero l (sym a ∙ number-at (go z) d))

      numbered : (m : ℕ) (t : Float) → FirstMetOn c m t → (0 < m) × (((run_reply r).number ≡ m) × ((run_reply r).time ≡ t))
      numbered m t g =
          let h = (run.exact m t).1 g in
          (meets-above g.meets, (number-at (stop m t h.0) h.1, ap (λ (x : RunReport). x.time) (reply-at (stop m t h.0) h.1)))

      stops : (m : ℕ) (t : Float) (g : FirstMetOn c m t) → AtStop c r exit m t g
      stops m t g =
          let h = (run.exact m t).1 g in
          let y = reply-at (stop m t h.0) h.1 in
          let s = slices-at (stop m t h.0) h.1 in
          record {
            rows = ap (λ (x : RunReport). x.rows) y;
            advances = ap (λ (x : RunReport). x.advances) y ∙ ap length (run.advances m t h.0 h.1 g);
            times = s.times;
            sides = s.sides;
            values = s.values;
          }

      budgeted : Budgeted c.window.propagations (run_reply r).number (run_reply r).advances
      budgeted =
          by_outcome (run_on c) (λ m t z d. rw (reply-at (stop m t z) d) (run.budgeted m t z d))
          (λ z d. rw (reply-at (go z) d) (record { within = λ _. run.ended z d; beyond = λ q. absurd (not_thirty q) }))
        where
          not_thirty : ◌≡◌ {A = ℕ} 0 30 → ⊥
          not_thirty q = omega arith

      cycle : Cycle c.window → T (one_of (run_reply r).number (0 ∷ stop_numbers))
      cycle k = on (run.cycle k)
        where
          on : ((z : State) × (run_on c ≡ go z)) ⊎ ((m : ℕ) × (t : Float) × (z : State) × (run_on c ≡ stop m t z)
              × T (one_of m stop_numbers))
              → T (one_of (run_reply r).number (0 ∷ stop_numbers))
          on (inl (z, d)) = rw (number-at (go z) d) tt
          on (inr (m, t, z, d, h)) = rw (number-at (stop m t z) d) (or_right (eqb m 0) _ h)

      replied : Replied c r exit
      replied = record {
        within = rw (q.reply, began p) (few (run_on c) run.within);
        zero = (at_zero, λ h. number-at (go h.0) h.1);
        ends = ends;
        above = λ m t. ((λ h. met m t h.0 h.1.0 h.1.1), numbered m t);
        stops = stops;
        budgeted = budgeted;
        cycle = cycle;
      }

-- ---- two calls
module _ (c c' : Call) (f : TimesFit c) (f' : TimesFit c') (p : Passed c) (p' : Passed c') (d : Apart c c') where
  apart : (z z' : State) → run_on c ≡ go z → run_on c' ≡ go z' → SamplesApart z z'
  apart z z' e e' =
      demand_3.samples_apart (call_states c) (propagator_of c.kernel) c.window c'.window c.samples c'.samples c.events c.amounts
      (prepared c f p) (subst (λ (k : LinearPk). Prepared (state_count k) c'.window c'.samples c.events) (sym d.kernel)
      (subst (Prepared (call_states c') c'.window c'.samples) (sym d.listed) (prepared c' f' p')))
      d.start d.end z z' e (ran ∙ e')
    where
      ran : run_of (propagator_of c.kernel) (call_states c) c'.window c'.samples c.events c.amounts ≡ run_on c'
      ran =
          ap₂ (λ (k : LinearPk) (a : List Float). run_of (propagator_of k) (state_count k) c'.window c'.samples c.events a) d.kernel d.amounts
          ∙ ap (λ (es : List Event). run_of (propagator_of c'.kernel) (call_states c') c'.window c'.samples es c'.amounts) d.listed

pub every_simulate : EverySimulate
every_simulate = record {
  replied = replied;
  passed = passed;
  same_rows = λ c c' r r' exit exit' q q' f f' d e e'.
      let p = passed c r exit q e in
      let p' = passed c' r' exit' q' e' in
      let z = at_zero c r exit q f p e in
      let z' = at_zero c' r' exit' q' f' p' e' in
      record {
        left = z.0;
        left' = z'.0;
        ran = z.1;
        ran' = z'.1;
        slices = slices-at c r exit q f p (go z.0) z.1;
        slices' = slices-at c' r' exit' q' f' p' (go z'.0) z'.1;
        rows = apart c c' f f' p p' d z.0 z'.0 z.1 z'.1;
      };
}
