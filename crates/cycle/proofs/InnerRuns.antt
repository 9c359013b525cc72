-- The inner runs of a closed cycle: what is handed on by `ready`, and by it the lists of these runs are prepared, their window is a cycle,
-- and the last post row of one that reaches the end
-- holds the amounts that it leaves. Assumes nothing.
use mathlib.Core.Path.{◌≡◌, refl, sym, ap, ◌∙◌, subst}
use Prim.Native.Nat.{ℕ, ◌*◌, ◌≤◌}
use mathlib.Core.Bool.{Bool, true, false}
use mathlib.Core.List.{List, [], ◌∷◌, ◌++◌}
use mathlib.Core.Option.{Option, none}
use lib.Dec.{T, leb}
use lib.ListN.{length}
use lib.Ieee.{Float}
use lib.Ieee.Scale.{finite}
use Rattle.binary64.specs.Lists.{all}
use Rattle.protocol.specs.declared.Event.{Event}
use Rattle.protocol.specs.declared.Window.{Window}
use Rattle.protocol.specs.First.{unless, first_of}
use Rattle.protocol.specs.Prepare.{reckoned, prepare}
use Rattle.protocol.specs.Execute.{Propagator, Row, Post, State, go, run_of}
use Rattle.protocol.specs.PlainRun.{Prepared, Cycle}
use Rattle.protocol.proofs.ListLaws.{both}
use Rattle.protocol.proofs.LastRow.{last_row}
use Rattle.cycle.specs.declared.SteadyStateTolerance.{SteadyStateTolerance}
use Rattle.cycle.specs.Fold.{period, cycle_passes, fold}
use Rattle.cycle.specs.Closed.{got, untimed, unless_number, tolerance_passes, divided, ready, homogeneous, last_post}
use Rattle.cycle.specs.ClosedCycle.{TimesFit, closed_numbers}
use Rattle.cycle.proofs.Results.{Hands, hands_test, hands_then, hands_got, hands_untimed}
use Rattle.cycle.proofs.Folds.{folding, time_fits, Folded, fold_gives, zeroed-times, folded-passes, zeroed-passes}

-- ---- what `ready` hands on
pub record Ready (n : ℕ) (w : Window) (es : List Event) (tol : SteadyStateTolerance) (fs : List Event) : Type 0 where
  pub tolerance : T (tolerance_passes tol)
  pub folds : Folded n w es fs
  pub prepared : prepare n (divided n w) [] fs ≡ none

pub ready_hands : (n : ℕ) (w : Window) (ss : List Float) (es : List Event) (tol : SteadyStateTolerance)
    → Hands closed_numbers (Ready n w es tol) (ready n w ss es tol)
unfolding ready
ready_hands n w ss es tol =
    hands_test closed_numbers (Ready n w es tol) (tolerance_passes tol) 19 es _ tt
    (λ t. hands_then closed_numbers (Ready n w es tol) (Folded n w es) (untimed (fold n w ss es)) _
    (hands_untimed folding closed_numbers (Folded n w es) (fold n w ss es) tt (fold_gives n w ss es))
    (λ fs f. let p = folded-passes n n w es fs f in
    subst (λ (o : Option ℕ). Hands closed_numbers (Ready n w es tol) (unless_number o fs)) (sym p)
    (on t fs f (leb (length fs) (divided n w).events) (leb (reckoned [] fs * n) (divided n w).outputs) p)))
  where
    on : T (tolerance_passes tol) → (fs : List Event) → Folded n w es fs → (a b : Bool)
        → prepare n (divided n w) [] fs ≡ first_of (unless a 13 ∷ unless b 14 ∷ [])
        → Hands closed_numbers (Ready n w es tol) (unless_number (first_of (unless a 13 ∷ unless b 14 ∷ [])) fs)
    on t fs f true true q = record { tolerance = t; folds = f; prepared = q }
    on t fs f true false q = tt
    on t fs f false b q = tt

-- ---- the lists of the inner runs
module _ (n : ℕ) (w : Window) (es fs : List Event) (f : Folded n w es fs) where
  pub inner_cycle : Cycle (divided n w)
  unfolding divided cycle_passes
  inner_cycle = (both (finite (period w)) _ (both (finite w.end) _ (both (finite w.start) _ f.cycle).1).1).0

  module _ (fit : TimesFit w es) (p : prepare n (divided n w) [] fs ≡ none) where
    times : T (all time_fits fs)
    times = f.times fit.start_fits fit.times_fit

    pub inner_prepared : Prepared n (divided n w) [] fs
    unfolding divided
    inner_prepared = record { start_fits = fit.start_fits; end_fits = fit.end_fits; samples_fit = tt; times_fit = times; passes = p }

    pub zeroed-prepared : Prepared n (divided n w) [] (homogeneous fs)
    unfolding divided
    zeroed-prepared = record {
      start_fits = fit.start_fits;
      end_fits = fit.end_fits;
      samples_fit = tt;
      times_fit = subst T (sym (zeroed-times fs)) times;
      passes = zeroed-passes n n w es fs f ∙ p;
    }

-- behind `ready`
pub record Inner (n : ℕ) (w : Window) (es fs : List Event) : Type 0 where
  pub pieces : length fs ≤ 3 * length es
  pub cycle : Cycle (divided n w)
  pub prepared : Prepared n (divided n w) [] fs
  pub zeroed-prepared : Prepared n (divided n w) [] (homogeneous fs)

pub ready_inner : (n : ℕ) (w : Window) (ss : List Float) (es : List Event) (tol : SteadyStateTolerance) (fs : List Event) → TimesFit w es
    → ready n w ss es tol ≡ got fs → Inner n w es fs
ready_inner n w ss es tol fs fit q =
    let r = hands_got closed_numbers (Ready n w es tol) (ready n w ss es tol) fs (ready_hands n w ss es tol) q in
    record {
      pieces = r.folds.few;
      cycle = inner_cycle n w es fs r.folds;
      prepared = inner_prepared n w es fs r.folds fit r.prepared;
      zeroed-prepared = zeroed-prepared n w es fs r.folds fit r.prepared;
    }

-- ---- the last post row of a run that reaches the end holds the amounts it leaves
last-post : (a : List Float) (rs : List Row) (r : Row) → r.side ≡ Post → last_post a (rs ++ (r ∷ [])) ≡ r.amounts
unfolding last_post
last-post a [] r p = rw p refl
last-post a (x ∷ rs) r p = last-post _ rs r p

pub run_leaves : (advance : Propagator) (n : ℕ) (w : Window) (ss : List Float) (es : List Event) (a : List Float) (z : State)
    → Prepared n w ss es → run_of advance n w ss es a ≡ go z
    → last_post [] z.rows ≡ z.amounts
run_leaves advance n w ss es a z p e = let h =
    last_row advance n w ss es p a z e in ap (last_post []) h.whole ∙ last-post [] h.ahead h.last h.post ∙ h.final
