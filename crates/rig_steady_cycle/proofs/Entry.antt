-- The library's entry, given a sheet's values, is the sheet's closed cycle.
use mathlib.Core.Path.{◌≡◌, refl, subst, ◌∙◌}
use mathlib.Core.Bool.{true, ◌&&◌}
use mathlib.Core.List.{List}
use Prim.Native.Nat.{ℕ, ◌+◌, ◌≤◌}
use native.Mathlib.Omega.{arith}
use borrow.Author.Tests.{le-leb}
use lib.Dec.{leb}
use lib.ListN.{length, take}
use lib.Ieee.{Float}
use Rattle.limits.specs.Limits.{most_cycle_events, most_events, most_samples}
use Rattle.refusal.specs.Result.{done}
use Rattle.linear_pk.specs.LinearPk.{sound, state_count}
use Rattle.linear_pk.specs.declared.kernel.LinearPk.{LinearPk}
use Rattle.protocol.specs.declared.Event.{Event}
use Rattle.protocol.specs.declared.Window.{Window}
use Rattle.events_layout.specs.Layout.{event_count, event_of, events_of}
use Rattle.events_layout.proofs.Laws.{all_held}
use Rattle.sheet_kernel.specs.Values.{double_of, doubles_from, sheet_window}
use Rattle.cycle.specs.declared.SteadyStateTolerance.{SteadyStateTolerance}
use Rattle.matrix.proofs.Filled.{tabulate-length}
use Rattle.cycle.specs.Closed.{Timed, SteadyState, SteadyReport, steady_report_of, answer_at_exit}
use Rattle.periodic_acceptance.specs.Entry.{steady_entry}
use Rattle.sheet_kernel.specs.CycleTolerance.{tolerance_of}
use Rattle.rig_steady_cycle.specs.SheetCycle.{steady_with}
use Rattle.periodic_acceptance.specs.Replies.{SteadyAnswer}

module _ (k : LinearPk) (w ss es : List ℕ) where
  entry_is : (samples : ℕ) → sound k ≡ done k → event_count es ≤ most_cycle_events → samples ≡ length ss → samples ≤ most_samples
      → steady_entry k (sheet_window w) (doubles_from ss 0 samples) (events_of es) (tolerance_of w) true ≡ steady_with k w ss es
  unfolding steady_entry steady_with events_of
  entry_is samples h l s m =
      rw (
        tabulate-length (event_of es) (event_count es),
        le-leb (event_count es) most_cycle_events l,
        tabulate-length (λ (i : ℕ). double_of ss (0 + i)) samples,
        le-leb samples most_samples m,
        h,
        s,
      )

  -- the entry's answers are those of the cycle
  pub entry-answer : (amounts residual : List Float) → sound k ≡ done k
      → {readings : List Float} {list : List Event} {span : Window} {tolerance : SteadyStateTolerance} {samples : ℕ}
      {r : SteadyReport} {amounts' residual' : List Float}
      → readings ≡ doubles_from ss 0 samples → list ≡ take most_events (events_of es) → span ≡ sheet_window w → tolerance ≡ tolerance_of w
      → event_count es ≤ most_cycle_events → samples ≡ length ss → samples ≤ most_samples → length amounts ≡ state_count k
      → length residual ≡ state_count k
      → r ≡ steady_report_of (steady_entry k span readings list tolerance (leb (state_count k) (length amounts) && leb (state_count k) (length residual)))
      → amounts' ≡ answer_at_exit (λ (s : SteadyState). s.amounts) (steady_entry k span readings list tolerance
      (leb (state_count k) (length amounts) && leb (state_count k) (length residual))) amounts
      → residual' ≡ answer_at_exit (λ (s : SteadyState). s.residuals) (steady_entry k span readings list tolerance
      (leb (state_count k) (length amounts) && leb (state_count k) (length residual))) residual
      → SteadyAnswer (steady_with k w ss es) r amounts residual amounts' residual'
  entry-answer amounts residual h {readings} {list} {span} {tolerance} {samples} {r} {amounts'} {residual'} q v p t l s m a b x y z =
      subst (λ (o : Timed SteadyState). SteadyAnswer o r amounts residual amounts' residual') same (record { reply = x; amounts = y; residuals = z })
    where
      room : leb (state_count k) (length amounts) && leb (state_count k) (length residual) ≡ true
      room = rw (le-leb (state_count k) (length amounts) (omega arith), le-leb (state_count k) (length residual) (omega arith)) refl

      whole : list ≡ events_of es
      whole = v ∙ all_held es l

      same : steady_entry k span readings list tolerance (leb (state_count k) (length amounts) && leb (state_count k) (length residual))
          ≡ steady_with k w ss es
      same = rw (q, whole, p, t, room) (entry_is samples h l s m)
