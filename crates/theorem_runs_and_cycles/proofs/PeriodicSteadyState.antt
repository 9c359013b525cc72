-- Demand 3 of what `periodic_steady_state` replies and leaves: `every_steady_state`, from its contract. Assumes nothing.
use mathlib.Core.Path.{◌≡◌, refl, sym, ap, ap₂, ◌∙◌}
use Prim.Native.Nat.{ℕ, zero, suc, ◌-◌, ◌<◌}
use native.Mathlib.Omega.{arith}
use mathlib.Core.Bool.{true}
use mathlib.Core.List.{List, [], ◌∷◌, ◌++◌}
use mathlib.Core.Logic.{◌⊎◌, inl, inr, ◌↔◌}
use borrow.Author.Tests.{le-leb}
use lib.Dec.{T, eqb}
use lib.ListN.{length, drop, length-set, length-replicate}
use lib.Ieee.{Float, binary64, sub}
use Rattle.limits.specs.Limits.{most_cycle_events, most_samples}
use Rattle.binary64.specs.Doubles.{plus_zero}
use Rattle.refusal.specs.Result as R
use Rattle.matrix.specs.Matrix.{cell}
use Rattle.matrix.proofs.Filled.{tabulate-length}
use Rattle.protocol.specs.PlainRun.{one_of}
use Rattle.protocol.proofs.ListLaws.{or_right}
use Rattle.simulation.specs.KernelRun.{propagator_of}
use Rattle.cycle.specs.Elimination.{System, least_pivot, eliminate_to, solve_to, solve}
use Rattle.cycle.specs.Closed.{Timed, stopped, got, last_post, residuals_of, SteadyState, closed, SteadyReport, steady_report_of, answer_at_exit}
use Rattle.cycle.specs.ClosedCycle.{TimesFit, closed_numbers, CandidateAnswer, ClosedCycle}
use Rattle.periodic_acceptance.specs.Entry.{steady_entry, steady_reply}
use Rattle.theorem_runs_and_cycles.specs.PeriodicSteadyState as P
use Rattle.theorem_runs_and_cycles.specs.PeriodicSteadyState.{Slices, Call, call_states, entry_of, Contract, Passed}
use Rattle.theorem_runs_and_cycles.specs.PeriodicSteadyState.{candidate, YieldsOn, AcceptsOn, RejectsOn, AtAnswer, AtRefusal}
use Rattle.theorem_runs_and_cycles.specs.PeriodicSteadyState.{Replied, EverySteadyState}
use Rattle.theorem_runs_and_cycles.proofs.Demand3.{demand_3}
use Rattle.theorem_runs_and_cycles.proofs.Cases.{not_zero, positive, by_timed}

-- ---- a candidate has n amounts, and n residuals
solved-length : (n : ℕ) (s : System) (d : ℕ) → length (solve_to n s d) ≡ n
unfolding solve_to
solved-length n s zero = length-replicate n plus_zero
solved-length n s (suc d) = length-set (solve_to n s d) (n - suc d) _ ∙ solved-length n s d

solve-length : (n : ℕ) (s : System) (a : List Float) → solve n s ≡ R.done a → length a ≡ n
unfolding solve
solve-length n s a = on (eliminate_to n (least_pivot n s.matrix) s n)
  where
    on : (r : R.Result System) → R.and_then r (λ t. R.done (solve_to n t n)) ≡ R.done a → length a ≡ n
    on (R.refused m) q = absurd (no q)
      where
        no : {m : ℕ} → R.refused m ≡ R.done a → ⊥
        no q = let z : ◌≡◌ {A = ℕ} 0 1 = cc in omega arith
    on (R.done t) q = ap length (let e : a ≡ solve_to n t n = cc in e) ∙ solved-length n t n

residuals-length : (n : ℕ) (a e : List Float) → length (residuals_of n a e) ≡ n
unfolding residuals_of
residuals-length n a e = tabulate-length (λ i. sub binary64 (cell e i) (cell a i)) n

-- ---- one call
module _ (c : Call) (r : P.SteadyReply) (exit : Slices) (q : Contract c r exit) where
  -- the reply and the slices of a refusal
  refusal : (m : ℕ) (t : Float) → entry_of c ≡ stopped m t → AtRefusal c r exit m t
  refusal m t e =
      let y = q.reply ∙ ap steady_report_of e in
      record {
        number = ap (λ (x : SteadyReport). x.number) y;
        time = ap (λ (x : SteadyReport). x.time) y;
        maximum = ap (λ (x : SteadyReport). x.maximum) y;
        slices =
            ap₂ (λ (a b : List Float). record { amounts = a; residual = b })
            (q.amounts ∙ ap (λ (o : Timed SteadyState). answer_at_exit (λ s. s.amounts) o c.lent.amounts) e)
            (q.residuals ∙ ap (λ (o : Timed SteadyState). answer_at_exit (λ s. s.residuals) o c.lent.residual) e);
      }

  unchanged : 0 < (steady_reply r).number → AtRefusal c r exit (steady_reply r).number (steady_reply r).time
  unchanged l =
      by_timed (entry_of c)
      (λ m t e. let h = refusal m t e in record { number = refl; time = refl; maximum = h.maximum; slices = h.slices })
      (λ s e. not_zero l (ap (λ (x : SteadyReport). x.number) (q.reply ∙ ap steady_report_of e)))

  module _ (f : TimesFit c.window c.events) (p : Passed c) where
    abbrev whole : Timed SteadyState
    whole = closed (propagator_of c.kernel) (call_states c) c.window c.samples c.events c.tolerance true

    begins : entry_of c ≡ whole
    unfolding steady_entry
    begins =
        rw (
          le-leb (length c.events) most_cycle_events p.count,
          le-leb (length c.samples) most_samples p.samples,
          p.kernel,
          le-leb (call_states c) (length c.lent.amounts) p.amounts,
          le-leb (call_states c) (length c.lent.residual) p.residual,
        )

    cycle : ClosedCycle (propagator_of c.kernel) (call_states c) c.window c.samples c.events c.tolerance
    cycle = demand_3.closed-cycle c.kernel p.kernel c.window c.samples c.events c.tolerance f

    -- 0 is the number of an answer
    at_zero : (steady_reply r).number ≡ 0 → (s : SteadyState) × (whole ≡ got s)
    at_zero e = by_timed whole (λ m t d. not_zero (positive m (cycle.numbers m t d)) (sym (refusal m t (begins ∙ d)).number ∙ e)) (λ s d. (s, d))

    reply_of : (s : SteadyState) → whole ≡ got s → steady_reply r ≡ steady_report_of (got s)
    reply_of s d = q.reply ∙ ap steady_report_of (begins ∙ d)

    answer : (a : List Float) (y : YieldsOn c a) (h : AcceptsOn c y.folded a) → AtAnswer c r exit a (last_post [] h.left.rows)
    answer a y h =
        record {
          time = ap (λ (x : SteadyReport). x.time) (reply_of s d);
          maximum = ap (λ (x : SteadyReport). x.maximum) (reply_of s d) ∙ g.maximum;
          amounts =
              q.amounts ∙ ap (λ (o : Timed SteadyState). answer_at_exit (λ s. s.amounts) o c.lent.amounts) (begins ∙ d)
              ∙ ap (λ (xs : List Float). xs ++ drop (length xs) c.lent.amounts) g.amounts
              ∙ ap (λ (k : ℕ). a ++ drop k c.lent.amounts) (solve-length (call_states c) _ a y.solves);
          residual =
              q.residuals ∙ ap (λ (o : Timed SteadyState). answer_at_exit (λ s. s.residuals) o c.lent.residual) (begins ∙ d)
              ∙ ap (λ (xs : List Float). xs ++ drop (length xs) c.lent.residual) g.residuals
              ∙ ap (λ (k : ℕ). residuals_of (call_states c) a end ++ drop k c.lent.residual) (residuals-length (call_states c) a end);
        }
      where
        end : List Float
        end = last_post [] h.left.rows

        s : SteadyState
        s = ((cycle.accepts a y).1 h).0

        d : whole ≡ got s
        d = ((cycle.accepts a y).1 h).1

        g : CandidateAnswer (call_states c) c.tolerance a end s
        g = cycle.answer a y h s d

    yields : ((a : List Float) × YieldsOn c a) ⊎ ((m : ℕ) × (t : Float) × (candidate c ≡ stopped m t) × AtRefusal c r exit m t)
    yields =
        by_timed (candidate c) (λ m t d. inr (m, t, d, refusal m t (begins ∙ cycle.refuses m t d))) (λ a d. inl (a, (cycle.yields a).0 d))

    above : (a : List Float) (y : YieldsOn c a) (m : ℕ) (t : Float) → ((0 < m) × (((steady_reply r).number ≡ m) × ((steady_reply r).time ≡ t)))
        ↔ RejectsOn c y.folded a m t
    above a y m t = ((λ h. (cycle.rejects a y m t).0 (stops h.0 h.1.0 h.1.1)), refused)
      where
        stops : 0 < m → (steady_reply r).number ≡ m → (steady_reply r).time ≡ t → whole ≡ stopped m t
        stops l e f =
            by_timed whole (λ k u d. let h = refusal k u (begins ∙ d) in d ∙ ap₂ stopped (sym h.number ∙ e) (sym h.time ∙ f))
            (λ s d. not_zero l (sym e ∙ ap (λ (x : SteadyReport). x.number) (reply_of s d)))

        refused : RejectsOn c y.folded a m t → (0 < m) × (((steady_reply r).number ≡ m) × ((steady_reply r).time ≡ t))
        refused g =
            let d = (cycle.rejects a y m t).1 g in
            let h = refusal m t (begins ∙ d) in
            (positive m (cycle.numbers m t d), (h.number, h.time))

    numbers : T (one_of (steady_reply r).number (0 ∷ closed_numbers))
    numbers =
        by_timed whole
        (λ m t d. rw (refusal m t (begins ∙ d)).number (or_right (eqb m 0) (one_of m closed_numbers) (cycle.numbers m t d)))
        (λ s d. rw (ap (λ (x : SteadyReport). x.number) (reply_of s d)) tt)

    replied : Replied c r exit
    replied = record {
      yields = yields;
      zero =
          λ a y. (
            (λ e. (cycle.accepts a y).0 (at_zero e)),
            λ h. let s = (cycle.accepts a y).1 h in ap (λ (x : SteadyReport). x.number)
                (reply_of s.0 s.1),
          );
      answer = λ a y h. ((cycle.ends a y h).0, answer a y h);
      above = above;
      needs = λ e. let s = at_zero e in (s.0.amounts, cycle.needs s.0 s.1);
      numbers = numbers;
    }

pub every_steady_state : EverySteadyState
every_steady_state = record { replied = replied; unchanged = unchanged }
