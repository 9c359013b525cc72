-- An inner run: where it comes to, from what the run's code leaves.
use mathlib.Core.Path.{◌≡◌, refl, sym, ap, ◌∙◌, subst}
use mathlib.Core.Bool.{cond}
use mathlib.Core.List.{List, []}
use Prim.Native.Nat.{ℕ}
use lib.ListN.{take}
use lib.Ieee.{Float}
use Rattle.refusal.specs.Numbers.{refusal_number}
use Rattle.std.specs.Prelude.{Ok, Err, Result}
use Rattle.matrix.specs.Exponential.{scheme}
use Rattle.linear_pk.specs.LinearPk.{advance}
use Rattle.linear_pk.specs.declared.kernel.LinearPk.{LinearPk}
use Rattle.protocol.specs.Schedule.{schedule}
use Rattle.protocol.specs.Execute.{Propagator, Outcome, go, stop, run_of}
use Rattle.protocol.specs.PlainRun.{Prepared}
use Rattle.protocol.specs.declared.Event.{Event}
use Rattle.protocol.specs.declared.Window.{Window}
use Rattle.rows.specs.Written.{Cells}
use Rattle.rows.specs.Standing.{Standing, standing, came_to, behind_of, after, Ran, kernel_advance}
use Rattle.rows.specs.declared.Progress.{Progress}
use Rattle.rows.specs.declared.Stopped.{Stopped}
use Rattle.simulation_matrix.specs.Started.{started}
use Rattle.simulation.specs.KernelRun.{propagator_of}
use Rattle.cycle.specs.Closed.{Timed, stopped, got, divided, end_of, last_of}
use Rattle.cycle.proofs.InnerRuns.{run_leaves}
use Rattle.periodic_runs.specs.Ends.{Runs}

-- ---- where it comes to
-- the first n amounts, or the number and the time of a stop
abbrev pub timed_of : ℕ → Result Progress Stopped → Timed (List Float)
timed_of n (Ok p) = got (take n p.amounts)
timed_of n (Err z) = stopped (refusal_number z.refusal) z.time

abbrev told_end : Standing → Timed (List Float)
told_end t = cond t.stopped (stopped t.number t.time) (got t.amounts)

as_told : (n : ℕ) (r : Result Progress Stopped) → timed_of n r ≡ told_end (came_to n r)
as_told n (Ok p) = refl
as_told n (Err z) = refl

module _ (k : LinearPk) (n : ℕ) (w : Window) (es : List Event) (initial : List Float) (h : Runs k n w es) where
  kernel-advance : kernel_advance k n ≡ propagator_of k
  unfolding kernel_advance
  kernel-advance = ap (λ (j : ℕ). λ (x r : List Float) (d : Float). advance scheme k x r d j) h.count

  end_told : Prepared n (divided n w) [] es → (o : Outcome) → run_of (propagator_of k) n (divided n w) [] es (take n initial) ≡ o
      → (s : Standing) → told_end (behind_of s o) ≡ end_of o
  end_told p (stop c t z) e s = refl
  end_told p (go z) e s = ap got (sym (run_leaves (propagator_of k) n (divided n w) [] es (take n initial) z p e))

  pub inner : {v : Window} {x : Result Progress Stopped} {old c : Cells} → v ≡ divided n w → Prepared n v [] es
      → Ran (kernel_advance k n) n (started initial v.propagations) (schedule n v [] es) old x c
      → timed_of n x ≡ last_of (propagator_of k) n w es (take n initial)
  unfolding last_of run_of after
  inner {v} {x} {old} {c} e q r =
      let r' = subst (λ (u : Window). Ran (kernel_advance k n) n (started initial u.propagations) (schedule n u [] es) old x c) e r in
      let r'' = subst (λ (f : Propagator). Ran f n (started initial (divided n w).propagations) (schedule n (divided n w) [] es) old x c) kernel-advance r' in
      as_told n x ∙ ap told_end r''.progress
      ∙ end_told (subst (λ (u : Window). Prepared n u [] es) e q) (run_of (propagator_of k) n (divided n w) [] es (take n initial)) refl
      (standing n (started initial (divided n w).propagations))
