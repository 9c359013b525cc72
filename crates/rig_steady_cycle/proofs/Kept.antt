-- The closed cycle of a sheet: no refusal has the number 0, and an answer has n amounts and n residuals.
use mathlib.Core.Path.{◌≡◌, refl, ap, ◌∙◌, subst}
use mathlib.Core.Bool.{true}
use mathlib.Core.List.{List}
use Prim.Native.Nat.{ℕ, zero, suc, ◌≤◌}
use native.Mathlib.Omega.{arith}
use lib.Dec.{T}
use lib.ListN.{length, replicate}
use lib.Ieee.{Float}
use Rattle.binary64.specs.Doubles.{plus_zero}
use Rattle.matrix.proofs.Filled.{tabulate-length}
use Rattle.refusal.specs.Result.{Result, refused, done, and_then}
use Rattle.linear_pk.specs.LinearPk.{sound, state_count}
use Rattle.linear_pk.specs.declared.kernel.LinearPk.{LinearPk}
use Rattle.protocol.specs.declared.Event.{Event}
use Rattle.protocol.specs.declared.Window.{Window}
use Rattle.protocol.specs.Execute.{Propagator}
use Rattle.protocol.specs.PlainRun.{one_of}
use Rattle.simulation.specs.KernelRun.{propagator_of, refusal_of}
use Rattle.simulation.proofs.KernelRuns.{kernel_laws}
use Rattle.events_layout.specs.Layout.{events_of}
use Rattle.sheet_kernel.specs.Values.{sheet_window}
use Rattle.cycle.specs.Elimination.{System, system_of, eliminate_to, least_pivot, solve_to, solve}
use Rattle.cycle.specs.Closed.{Timed, stopped, got, then, untimed, columns_to, last_of, solution, residuals_of, SteadyState, closed}
use Rattle.cycle.specs.ClosedCycle.{closed_numbers, ClosedCycle}
use Rattle.cycle.proofs.Candidates.{yields-solution}
use Rattle.cycle.proofs.Theorems.{solve_sized, closed-cycle}
use Rattle.cycle.proofs.Results.{no_answer, same_answer}
use Rattle.rig_run_sheet.specs.SheetRun.{doubles_of}
use Rattle.rig_run_sheet.proofs.Words.{times-made, start-made, end-made}
use Rattle.sheet_kernel.specs.CycleTolerance.{tolerance_of}
use Rattle.rig_steady_cycle.specs.SheetCycle.{steady_with}

-- ---- elimination yields n amounts
solution_sized : (advance : Propagator) (n : ℕ) (w : Window) (fs : List Event) (c : List Float) → solution advance n w fs ≡ got c → length c ≡ n
unfolding solution solve
solution_sized advance n w fs c = on (last_of advance n w fs (replicate n plus_zero))
  where
    solved : (s : System) (r : Result System) → untimed (and_then r (λ (t : System). done (solve_to n t n))) ≡ got c → length c ≡ n
    solved s (refused k) q = absurd (no_answer q)
    solved s (done t) q = subst (λ (x : List Float). length x ≡ n) (same_answer q) (solve_sized n t n)

    behind : (b : List Float) (cs : Timed (List (List Float)))
        → then cs (λ (cs : List (List Float)). untimed (solve n (system_of n cs b))) ≡ got c → length c ≡ n
    behind b (stopped k t) q = absurd (no_answer q)
    behind b (got cs) q = let s = system_of n cs b in solved s (eliminate_to n (least_pivot n s.matrix) s n) q

    on : (b : Timed (List Float)) → then b (λ (b : List Float). then (columns_to advance n w fs n)
        (λ (cs : List (List Float)). untimed (solve n (system_of n cs b)))) ≡ got c → length c ≡ n
    on (stopped k t) q = absurd (no_answer q)
    on (got b) q = behind b (columns_to advance n w fs n) q

-- ---- what is kept of a closed cycle of n states
pub record Sized (n : ℕ) (s : SteadyState) : Type 0 where
  pub amounts : length s.amounts ≡ n
  pub residuals : length s.residuals ≡ n

abbrev pub Kept : ℕ → Timed SteadyState → Type 0
Kept n (stopped c t) = 1 ≤ c
Kept n (got s) = Sized n s

among : (c : ℕ) → T (one_of c closed_numbers) → 1 ≤ c
among zero h = absurd h
among (suc c) h = omega arith

pub steady_kept : (k : LinearPk) (w ss es : List ℕ) → sound k ≡ done k → Kept (state_count k) (steady_with k w ss es)
unfolding steady_with residuals_of
steady_kept k w ss es h = on (closed (propagator_of k) (state_count k) (sheet_window w) (doubles_of ss) (events_of es) (tolerance_of w) true) refl
  where
    n : ℕ
    n = state_count k

    facts : ClosedCycle (propagator_of k) (state_count k) (sheet_window w) (doubles_of ss) (events_of es) (tolerance_of w)
    facts =
        closed-cycle (state_count k) (propagator_of k) (refusal_of k) (kernel_laws k h) (sheet_window w) (doubles_of ss) (events_of es)
        (tolerance_of w) (record { start_fits = start-made w; end_fits = end-made w; times_fit = times-made es })

    on : (o : Timed SteadyState) → closed (propagator_of k) (state_count k) (sheet_window w) (doubles_of ss) (events_of es) (tolerance_of w) true
        ≡ o → Kept (state_count k) o
    on (stopped c t) e = among c (facts.numbers c t e)
    on (got s) e =
        let y = facts.needs s e in
        let a = (facts.accepts s.amounts y).0 (s, e) in
        record {
          amounts =
              solution_sized (propagator_of k) (state_count k) (sheet_window w) y.folded s.amounts
              (yields-solution (propagator_of k) (state_count k) (sheet_window w) (doubles_of ss) (events_of es) (tolerance_of w) s.amounts y);
          residuals = ap length (facts.answer s.amounts y a s e).residuals ∙ tabulate-length _ (state_count k);
        }
