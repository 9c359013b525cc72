-- A sheet whose closed cycle is refused has that refusal, and one that is solved closes. The most bytes of a printout.
use mathlib.Core.Path.{◌≡◌, refl, sym, ap, ◌∙◌, subst}
use mathlib.Core.Bool.{Bool, true, false}
use mathlib.Core.List.{List, [], ◌∷◌}
use Prim.Native.Nat.{ℕ, suc, ◌≤◌, ◌<◌}
use native.Mathlib.Omega.{arith}
use native.Mathlib.Nat.{suc_inj}
use borrow.Author.Tests.{eq-eqb, leb-true}
use lib.Dec.{T, leb}
use lib.ListN.{length}
use lib.Ieee.{Float, nan, binary64, sub, le}
use lib.Ieee.Scale.{finite}
use Rattle.limits.specs.Limits.{most_cycle_events, most_samples}
use Rattle.binary64.specs.Doubles.{plus_zero, one}
use Rattle.refusal.specs.Result.{Result, refused, done}
use Rattle.linear_pk.specs.LinearPk.{sound, state_count}
use Rattle.linear_pk.specs.declared.kernel.LinearPk.{LinearPk}
use Rattle.linear_pk.proofs.Counted.{and_first}
use Rattle.matrix.specs.Matrix.{cell}
use Rattle.matrix.proofs.Filled.{tabulate-length, tabulate-at}
use Rattle.events_layout.specs.Layout.{event_count}
use Rattle.sheet.specs.Sheet.{Sheet, read_sheet}
use Rattle.sheet_kernel.specs.Values.{model_of}
use Rattle.sheet.proofs.Reading.{read_limits}
use Rattle.printout.specs.Printout.{bits_of, refused_text}
use Rattle.printout.proofs.Lengths.{places-most, refused-text-length}
use Rattle.cycle.specs.declared.SteadyStateTolerance.{SteadyStateTolerance}
use Rattle.cycle.specs.Closed.{Timed, stopped, got, then, untimed, scale_of, scaled_of, residuals_of, SteadyState}
use Rattle.cycle.proofs.Results.{no_answer}
use Rattle.rig_run_sheet.proofs.Amounts.{few-states}
use Rattle.sheet_kernel.specs.CycleTolerance.{tolerance_of}
use Rattle.rig_steady_cycle.specs.SheetCycle.{steady_with}
use Rattle.rig_steady_sheet.specs.SteadySheet.{steady_sheet, steady_of_bytes}
use Rattle.sheet_kernel.proofs.Kernels.{model-sound}
use Rattle.printout_cycle.specs.CyclePrintout.{NextCycle, state_closes, closes, lines_text, cycle_text}
use Rattle.printout_cycle.proofs.Lines.{text-length}
use Rattle.rig_cycle_next.specs.NextRun.{next_with}
use Rattle.rig_cycle_next.proofs.Next.{accepts, sized, end, next-ends, answers, end-width}
use Rattle.rig_cycle_sheet.proofs.Refusals.{next-stops}
use Rattle.rig_cycle_sheet.specs.CycleSheet.{next_sheet, next_of_bytes, EveryNextCycleCloses, most_cycle_bytes, EveryCyclePrintoutFits}

holds : (b : Bool) → T b → b ≡ true
holds true h = refl
holds false h = absurd h

-- ---- the verdict, state by state
module _ (tol : SteadyStateTolerance) where
  all_close : (xs ys zs : List Float) → length ys ≡ length xs → length zs ≡ length xs
      → ((i : ℕ) → i < length xs → T (finite (scale_of tol (cell xs i) (cell ys i))))
      → ((i : ℕ) → i < length xs → T (le (scaled_of tol (cell xs i) (cell ys i)) one))
      → ((i : ℕ) → i < length xs → cell zs i ≡ sub binary64 (cell ys i) (cell xs i)) → closes tol xs ys zs ≡ true
  unfolding closes state_closes
  all_close [] ys zs l m f g h = refl
  all_close (x ∷ xs) [] zs l m f g h = absurd (omega arith)
  all_close (x ∷ xs) (y ∷ ys) [] l m f g h = absurd (omega arith)
  all_close (x ∷ xs) (y ∷ ys) (z ∷ zs) l m f g h =
      rw (
        holds (finite (scale_of tol x y)) (f 0 (omega arith)),
        holds (le (scaled_of tol x y) one) (g 0 (omega arith)),
        eq-eqb (bits_of (sub binary64 y x)) (bits_of z) (ap bits_of (sym (h 0 (omega arith)))),
      )
      (all_close xs ys zs (suc_inj l) (suc_inj m) (λ i j. f (suc i) (omega arith)) (λ i j. g (suc i) (omega arith)) (λ i j. h (suc i) (omega arith)))

  residuals_close : (n : ℕ) (xs ys zs : List Float) → length xs ≡ n → length ys ≡ n → zs ≡ residuals_of n xs ys
      → ((i : ℕ) → i < n → T (finite (scale_of tol (cell xs i) (cell ys i))))
      → ((i : ℕ) → i < n → T (le (scaled_of tol (cell xs i) (cell ys i)) one)) → closes tol xs ys zs ≡ true
  unfolding residuals_of
  residuals_close n xs ys zs l m r f g =
      all_close xs ys zs (m ∙ sym l) (ap length r ∙ tabulate-length _ n ∙ sym l) (λ i j. f i (omega arith)) (λ i j. g i (omega arith))
      (λ i j. ap (λ (v : List Float). cell v i) r ∙ tabulate-at (λ (i : ℕ). sub binary64 (cell ys i) (cell xs i)) nan n i (omega arith))

-- ---- of a kernel and the other bodies
module _ (k : LinearPk) (w ss es : List ℕ) (h : sound k ≡ done k) (few : event_count es ≤ most_cycle_events) (s : SteadyState)
    (q : steady_with k w ss es ≡ got s) where
  abbrev next : NextCycle
  next = record { tolerance = tolerance_of w; starts = s.amounts; ends = end k w ss es h few s q; residuals = s.residuals }

  bodies_close : closes (tolerance_of w) s.amounts (end k w ss es h few s q) s.residuals ≡ true
  bodies_close =
      residuals_close (tolerance_of w) (state_count k) s.amounts (end k w ss es h few s q) s.residuals
      (sized k w ss es h few s q).amounts (end-width k w ss es h few s q) (answers k w ss es h few s q).residuals
      (accepts k w ss es h few s q).scales (accepts k w ss es h few s q).residuals

  lines_most : length (lines_text next) ≤ most_cycle_bytes
  lines_most =
      let z = sized k w ss es h few s q in
      let e = end k w ss es h few s q in
      let b : length e ≡ state_count k = end-width k w ss es h few s q in
      let l = text-length (tolerance_of w) s.amounts e s.residuals (omega (arith, z.amounts, b)) {closed = true} (sym bodies_close) in
      omega (arith, l, z.amounts, few-states k)

-- ---- of the bytes of a file
few-events : (bs : List ℕ) {s : Sheet} → read_sheet bs ≡ done s → event_count s.events ≤ most_cycle_events
few-events bs {s} e = leb-true (event_count s.events) most_cycle_events (and_first (leb (event_count s.events) most_cycle_events)
    (leb (length s.samples) most_samples) (read_limits bs e))

same_stop : {A B : Type 0} {c d : ℕ} {t u : Float} → ◌≡◌ {A = Timed A} (stopped d u) (stopped c t) → ◌≡◌ {A = Timed B} (stopped d u) (stopped c t)
same_stop q = cc

pub every_next_cycle_closes : EveryNextCycleCloses
unfolding steady_of_bytes steady_sheet next_of_bytes next_sheet
every_next_cycle_closes bs = record { refused = λ c t. stops (read_sheet bs) c t; closed = λ s. goes (read_sheet bs) refl s }
  where
    stops : (r : Result Sheet) (c : ℕ) (t : Float) → then (untimed r) steady_sheet ≡ stopped c t → then (untimed r) next_sheet ≡ stopped c t
    stops (refused d) c t q = same_stop q
    stops (done x) c t q = on (model_of x.model) q
      where
        on : (m : Result LinearPk) → then (untimed m) (λ (k : LinearPk). steady_with k x.window x.samples x.events) ≡ stopped c t
            → then (untimed m) (λ (k : LinearPk). next_with k x.window x.samples x.events) ≡ stopped c t
        on (refused d) q = same_stop q
        on (done k) q = next-stops k x.window x.samples x.events q

    goes : (r : Result Sheet) → read_sheet bs ≡ r → (s : SteadyState) → then (untimed r) steady_sheet ≡ got s
        → (x : NextCycle) × (then (untimed r) next_sheet ≡ got x) × (x.starts ≡ s.amounts) × (x.residuals ≡ s.residuals)
        × (closes x.tolerance x.starts x.ends x.residuals ≡ true)
    goes (refused d) e s q = absurd (no_answer q)
    goes (done x) e s q = on (model_of x.model) refl q
      where
        on : (m : Result LinearPk) → model_of x.model ≡ m → then (untimed m) (λ (k : LinearPk). steady_with k x.window x.samples x.events) ≡ got s
            → (y : NextCycle) × (then (untimed m) (λ (k : LinearPk). next_with k x.window x.samples x.events) ≡ got y)
            × (y.starts ≡ s.amounts) × (y.residuals ≡ s.residuals)
            × (closes y.tolerance y.starts y.ends y.residuals ≡ true)
        on (refused d) p q = absurd (no_answer q)
        on (done k) p q =
            let sound' = model-sound x.model p in
            let f = few-events bs e in (
              next k x.window x.samples x.events sound' f s q,
              next-ends k x.window x.samples x.events sound' f s q,
              refl,
              refl,
              bodies_close k x.window x.samples x.events sound' f s q,
            )

refusal-most : (c : ℕ) (t : Float) → length (refused_text c t) ≤ most_cycle_bytes
refusal-most c t = omega (arith, refused-text-length c t, places-most 19 c)

pub every_cycle_printout_fits : EveryCyclePrintoutFits
unfolding next_of_bytes next_sheet cycle_text
every_cycle_printout_fits bs = on (read_sheet bs) refl
  where
    cycle : (k : LinearPk) (w ss es : List ℕ) → sound k ≡ done k → event_count es ≤ most_cycle_events → (o : Timed SteadyState)
        → steady_with k w ss es ≡ o → length (cycle_text (next_with k w ss es)) ≤ most_cycle_bytes
    cycle k w ss es h few (stopped c t) q = subst (λ (x : Timed NextCycle). length (cycle_text x) ≤ most_cycle_bytes)
        (sym (next-stops k w ss es q)) (refusal-most c t)
    cycle k w ss es h few (got s) q = subst (λ (x : Timed NextCycle). length (cycle_text x) ≤ most_cycle_bytes)
        (sym (next-ends k w ss es h few s q)) (lines_most k w ss es h few s q)

    model : (x : Sheet) → read_sheet bs ≡ done x → (m : Result LinearPk) → model_of x.model ≡ m
        → length (cycle_text (then (untimed m) (λ (k : LinearPk). next_with k x.window x.samples x.events))) ≤ most_cycle_bytes
    model x e (refused c) p = refusal-most c plus_zero
    model x e (done k) p = cycle k x.window x.samples x.events (model-sound x.model p) (few-events bs e)
        (steady_with k x.window x.samples x.events) refl

    on : (r : Result Sheet) → read_sheet bs ≡ r → length (cycle_text (then (untimed r) next_sheet)) ≤ most_cycle_bytes
    on (refused c) e = refusal-most c plus_zero
    on (done x) e = model x e (model_of x.model) refl
