-- A closed cycle that is solved: its list folds, and the run of that list from the amounts reaches the end.
use mathlib.Core.Path.{◌≡◌, refl, sym, ap, ◌∙◌, subst}
use mathlib.Core.Bool.{Bool, true, false}
use mathlib.Core.List.{List, [], ◌∷◌, ◌++◌}
use mathlib.Core.Option.{Option, some, none}
use Prim.Native.Nat.{ℕ, ◌+◌, ◌≤◌}
use native.Mathlib.Omega.{arith}
use borrow.Author.Tests.{eq-eqb}
use lib.Dec.{T}
use lib.ListN.{length, take}
use lib.Ieee.{Float}
use Rattle.limits.specs.Limits.{most_cycle_events, most_events, most_samples}
use Rattle.binary64.specs.Doubles.{nonnegative}
use Rattle.binary64.specs.Lists.{all, amounts_pass}
use Rattle.refusal.specs.Result.{Result, refused, done}
use Rattle.refusal.specs.Numbers.{Reply, result_of}
use Rattle.std.specs.Prelude.{Ok, Err}
use Rattle.std.specs.Result.{is_ok}
use Rattle.matrix.proofs.Filled.{tabulate-length}
use Rattle.linear_pk.specs.LinearPk.{sound, state_count}
use Rattle.linear_pk.specs.declared.kernel.LinearPk.{LinearPk}
use Rattle.protocol.specs.declared.Event.{Event}
use Rattle.protocol.specs.declared.Window.{Window}
use Rattle.protocol.specs.Prepare.{prepare}
use Rattle.protocol.specs.Execute.{Row, Outcome}
use Rattle.protocol.specs.PlainRun.{rows_left}
use Rattle.protocol.proofs.EntryLaws.{width}
use Rattle.protocol.proofs.ListLaws.{both}
use Rattle.simulation.specs.KernelRun.{propagator_of, refusal_of}
use Rattle.simulation.proofs.KernelRuns.{kernel_laws, kernel-run}
use Rattle.events_layout.specs.Layout.{event_count, event_of, events_of}
use Rattle.events_layout.proofs.Laws.{all_held}
use Rattle.sheet_kernel.specs.Values.{double_of, doubles_from, sheet_window}
use Rattle.cycle.specs.declared.SteadyStateTolerance.{SteadyStateTolerance}
use Rattle.cycle.specs.Fold.{fold}
use Rattle.cycle.specs.Closed.{got, then, untimed, unless_fails, unless_number, tolerance_passes, divided, ready, last_post, end_of, last_of, SteadyState, closed}
use Rattle.cycle.specs.ClosedCycle.{TimesFit, Yields, Accepts, CandidateAnswer, ClosedCycle}
use Rattle.cycle.proofs.Theorems.{closed-cycle}
use Rattle.cycle.proofs.InnerRuns.{ready_inner}
use Rattle.cycle.proofs.Results.{no_answer, same_answer}
use Rattle.fold.specs.Entry.{fold_entry}
use Rattle.fold.proofs.Tests.{entry_folds}
use Rattle.rig_run_sheet.specs.SheetRun.{doubles_of}
use Rattle.rig_run_sheet.proofs.Words.{times-made, start-made, end-made}
use Rattle.sheet_kernel.specs.CycleTolerance.{tolerance_of}
use Rattle.rig_steady_cycle.specs.SheetCycle.{steady_with}
use Rattle.rig_steady_cycle.proofs.Kept.{Sized, Kept, steady_kept}
use Rattle.periodic_next.specs.ReachesEnd.{ReachesEnd}
use Rattle.rig_cycle_next.specs.NextRun.{next_with}
use Rattle.rig_cycle_next.specs.Solves.{Solves}

-- a list that is ready is the folded one
ready_folds : (n : ℕ) (w : Window) (ss : List Float) (es : List Event) (tol : SteadyStateTolerance) (fs : List Event)
    → ready n w ss es tol ≡ got fs → fold n w ss es ≡ done fs
unfolding ready
ready_folds n w ss es tol fs = on (tolerance_passes tol)
  where
    prepared : (gs : List Event) (o : Option ℕ) → unless_number o gs ≡ got fs → gs ≡ fs
    prepared gs none q = same_answer q
    prepared gs (some c) q = absurd (no_answer q)

    folded : (r : Result (List Event)) → then (untimed r) (λ (gs : List Event). unless_number (prepare n (divided n w) [] gs) gs) ≡ got fs → r ≡ done fs
    folded (refused c) q = absurd (no_answer q)
    folded (done gs) q = ap (λ (x : List Event). done x) (prepared gs (prepare n (divided n w) [] gs) q)

    on : (b : Bool) → then (unless_fails b 19 es) (λ (es : List Event). then (untimed (fold n w ss es))
        (λ (gs : List Event). unless_number (prepare n (divided n w) [] gs) gs)) ≡ got fs → fold n w ss es ≡ done fs
    on true q = folded (fold n w ss es) q
    on false q = absurd (no_answer q)

amounts_pass_lem : (n : ℕ) (xs : List Float) → length xs ≡ n → T (all nonnegative xs) → T (amounts_pass n xs)
amounts_pass_lem n xs e h = rw (eq-eqb (length xs) n e) h

module _ (k : LinearPk) (w ss es : List ℕ) (h : sound k ≡ done k) (few : event_count es ≤ most_cycle_events) (s : SteadyState)
    (q : steady_with k w ss es ≡ got s) where
  abbrev n : ℕ
  n = state_count k

  -- what is claimed of the closed cycle
  fit : TimesFit (sheet_window w) (events_of es)
  fit = record { start_fits = start-made w; end_fits = end-made w; times_fit = times-made es }

  facts : ClosedCycle (propagator_of k) n (sheet_window w) (doubles_of ss) (events_of es) (tolerance_of w)
  facts = closed-cycle n (propagator_of k) (refusal_of k) (kernel_laws k h) (sheet_window w) (doubles_of ss) (events_of es) (tolerance_of w) fit

  is_closed : closed (propagator_of k) n (sheet_window w) (doubles_of ss) (events_of es) (tolerance_of w) true ≡ got s
  unfolding steady_with
  is_closed = q

  pub yields : Yields (propagator_of k) n (sheet_window w) (doubles_of ss) (events_of es) (tolerance_of w) s.amounts
  yields = facts.needs s is_closed

  pub accepts : Accepts (propagator_of k) n (sheet_window w) (tolerance_of w) yields.folded s.amounts
  accepts = (facts.accepts s.amounts yields).0 (s, is_closed)

  pub sized : Sized n s
  sized = subst (Kept n) q (steady_kept k w ss es h)

  folds : fold n (sheet_window w) (doubles_of ss) (events_of es) ≡ done yields.folded
  folds = ready_folds n (sheet_window w) (doubles_of ss) (events_of es) (tolerance_of w) yields.folded yields.prepared

  pub goes : ReachesEnd k (sheet_window w) yields.folded s.amounts
  unfolding events_of
  goes =
      let i = ready_inner n (sheet_window w) (doubles_of ss) (events_of es) (tolerance_of w) yields.folded fit yields.prepared in
      record {
        kernel = h;
        few = omega (arith, i.pieces, tabulate-length (event_of es) (event_count es));
        prepared = i.prepared;
        passes = amounts_pass_lem n s.amounts sized.amounts accepts.passes;
        left = accepts.left;
        reaches = accepts.reaches;
      }

  -- the next cycle, where it ends with e
  pub next_is : {e : List Float} → last_of (propagator_of k) n (sheet_window w) yields.folded s.amounts ≡ got e
      → next_with k w ss es ≡ got (record { tolerance = tolerance_of w; starts = s.amounts; ends = e; residuals = s.residuals })
  unfolding next_with
  next_is l = rw (q, folds, l) refl

  -- ---- the cycle's end, and what is accepted of it
  abbrev pub end : List Float
  end = last_post [] accepts.left.rows

  pub next-ends : next_with k w ss es ≡ got (record { tolerance = tolerance_of w; starts = s.amounts; ends = end; residuals = s.residuals })
  unfolding last_of
  next-ends = next_is (ap end_of accepts.reaches)

  pub answers : CandidateAnswer n (tolerance_of w) s.amounts end s
  answers = facts.answer s.amounts yields accepts s is_closed

  pub end-width : length end ≡ n
  end-width =
      let e = facts.ends s.amounts yields accepts in
      let p = (kernel-run k h (divided n (sheet_window w)) [] yields.folded goes.prepared s.amounts goes.passes).rows in
      let r = subst (λ (o : Outcome). T (all (λ (r : Row). amounts_pass n r.amounts) (rows_left o))) accepts.reaches p in
      let l = e.0.end_row in
      ap length (e.1 ∙ sym l.final) ∙ width n l.last (last-passes (λ (r : Row). amounts_pass n r.amounts) l.ahead l.last
      (subst (λ (rs : List Row). T (all (λ (r : Row). amounts_pass n r.amounts) rs)) l.whole r))
    where
      last-passes : (p : Row → Bool) (rs : List Row) (r : Row) → T (all p (rs ++ (r ∷ []))) → T (p r)
      last-passes p [] r t = (both (p r) true t).0
      last-passes p (x ∷ rs) r t = last-passes p rs r (both (p x) (all p (rs ++ (r ∷ []))) t).1

  -- ---- what the code folds
  module _ {readings : List Float} {list : List Event} {span : Window} {samples : ℕ} (r : readings ≡ doubles_from ss 0 samples)
      (v : list ≡ take most_events (events_of es)) (p : span ≡ sheet_window w) (m : samples ≡ length ss) (l : samples ≤ most_samples) where
    pub entry_is : fold_entry k span readings list ≡ done yields.folded
    unfolding events_of
    entry_is =
        let within : length readings ≤ most_samples = omega (arith, ap length r ∙ tabulate-length (λ (i : ℕ). double_of ss (0 + i)) samples) in
        let whole : list ≡ events_of es = v ∙ all_held es few in
        let size : length list ≤ most_cycle_events = omega (arith, ap length whole ∙ tabulate-length (event_of es) (event_count es)) in
        sym (entry_folds k span readings list size within (sym h) refl) ∙ rw (r, whole, p, m) folds

    -- what it runs
    module _ {pieces : List Event} (x : done pieces ≡ fold_entry k span readings list) where
      run-list : pieces ≡ yields.folded
      run-list = same-list (x ∙ entry_is)
        where
          same-list : {xs ys : List Event} → done xs ≡ done ys → xs ≡ ys
          same-list e = cc

      pub run_goes : ReachesEnd k span pieces s.amounts
      run_goes = rw (p, run-list) goes

      pub run_ends : {e : List Float} → last_of (propagator_of k) n span pieces s.amounts ≡ got e
          → next_with k w ss es ≡ got (record { tolerance = tolerance_of w; starts = s.amounts; ends = e; residuals = s.residuals })
      run_ends y = next_is (rw (p, run-list) at y)

-- ---- a reply beside a value that stands for one is no refusal
pub holds : {A : Type 0} {b : A} (x : Reply) (a : A) → result_of x a ≡ done b → is_ok x ≡ true
holds (Ok u) a e = refl
holds (Err r) a e = absurd (let z : ◌≡◌ {A = ℕ} 0 1 = cc in omega arith)

-- the slices that solve it have a cell for each state
pub solves_sized : (k : LinearPk) (w ss es : List ℕ) → sound k ≡ done k → {amounts residual : List Float}
    → Solves (steady_with k w ss es) amounts residual → (length amounts ≡ state_count k) × (length residual ≡ state_count k)
solves_sized k w ss es h v =
    let z : Sized (state_count k) (record { amounts = _; residuals = _; maximum = v.maximum }) = subst (Kept (state_count k)) v.solved
    (steady_kept k w ss es h) in (z.amounts, z.residuals)
