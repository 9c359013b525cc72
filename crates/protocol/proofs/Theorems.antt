-- Demand 3's claims about plain runs: `plain_run` and `samples_apart`. Assumes nothing.
use mathlib.Core.Path.{◌≡◌, refl, sym, ap, ◌∙◌, subst}
use Prim.Native.Nat.{ℕ, ◌+◌, ◌-◌, ◌≤◌, zero-le}
use mathlib.Core.List.{List, [], ◌∷◌, ◌++◌, append_assoc, append-nil}
use mathlib.Core.Logic.{◌⊎◌, inl, inr}
use lib.Dec.{T}
use lib.ListN.{length}
use lib.Ieee.{Float}
use Rattle.protocol.specs.declared.Event.{Event}
use Rattle.protocol.specs.declared.Window.{Window}
use Rattle.binary64.specs.Lists.{flat_map, amounts_pass}
use Rattle.protocol.specs.Events.{boundaries}
use Rattle.protocol.specs.Schedule.{schedule}
use Rattle.protocol.specs.Execute.{Propagator, Advance, State, Outcome, go, stop, begin, run_of}
use Rattle.protocol.specs.PlainRun.{stop_numbers, one_of, Conditions, KernelLaws, Prepared, Cycle, FirstMet, advances_by, Reached, Budgeted, EveryPlainRun}
use Rattle.protocol.specs.SamplesApart.{EverySamplesApart}
use Rattle.protocol.proofs.FirstStop.{stop-same, split_stops}
use Rattle.protocol.proofs.Effects.{run-left, stop-left}
use Rattle.protocol.proofs.Conditions.{run_sound, rows_pass, meets-stops, begin-sound, reached-ready, first_met, stop-numbers}
use Rattle.protocol.proofs.Budgets.{run-few, budgeted-meets}
use Rattle.protocol.proofs.RowCounts.{rows-within, advances-made}
use Rattle.protocol.proofs.ReadingCounts.{readings-between}
use Rattle.protocol.proofs.LastRow.{last_row}
use Rattle.protocol.proofs.Independence.{same_boundary_rows, same-readings}

flat_map_snoc : {A B : Type 0} (f : A → List B) (xs : List A) (x : A) → flat_map f xs ++ f x ≡ flat_map f (xs ++ (x ∷ []))
flat_map_snoc f [] x = sym (append-nil (f x))
flat_map_snoc f (y ∷ ys) x = append_assoc (f y) (flat_map f ys) (f x) ∙ ap (◌++◌ (f y)) (flat_map_snoc f ys x)

module _ (n : ℕ) (advance : Propagator) {Refuses : Conditions} (laws : KernelLaws n advance Refuses) (w : Window) (ss : List Float)
    (es : List Event) (g : Prepared n w ss es) (a : List Float) (fine : T (amounts_pass n a)) where
  reached : (z : State) → run_of advance n w ss es a ≡ go z → Reached n w ss es z
  reached z e =
      let m = advances-made advance n w ss es a z e in
      record {
        end_row = last_row advance n w ss es g a z e;
        advances = m.0;
        count = m.1
            ∙ ap (λ (k : ℕ). length (boundaries w es) - 1 + k) (readings-between w ss es g);
      }

  -- a stopped run made the advances up to the refusing one
  stopped-left : (c : ℕ) (t : Float) (z : State) → run_of advance n w ss es a ≡ stop c t z
      → (f : FirstMet advance Refuses w.propagations (begin a) (schedule n w ss es) c t)
      → z.advances ≡ f.left.advances ++ advances_by f.step
  unfolding run_of
  stopped-left c t z e f =
      let m = meets-stops n advance w.propagations laws w f.left (run_sound n advance w.propagations laws f.ahead (begin a)
      f.left (begin-sound n advance laws w ss es g a fine) f.ran)
      (reached-ready n advance laws w ss es g a fine f.ahead f.step f.rest f.left f.parts f.ran) f.meets in
      let q = split_stops advance w.propagations (schedule n w ss es) (begin a) c t m.0
      (record { ahead = f.ahead; step = f.step; rest = f.rest; parts = f.parts; left = f.left; ran = f.ran; refuses = m.1 }) in
      ap (λ (s : State). s.advances) (stop-same (sym e ∙ q)).2 ∙ (stop-left advance w.propagations f.step f.left m.0 c t m.1).1

  stopped-advances : (c : ℕ) (t : Float) (z : State) → run_of advance n w ss es a ≡ stop c t z
      → (f : FirstMet advance Refuses w.propagations (begin a) (schedule n w ss es) c t)
      → z.advances ≡ flat_map advances_by (f.ahead ++ (f.step ∷ []))
  stopped-advances c t z e f =
      stopped-left c t z e f
      ∙ ap (λ (xs : List Advance). xs ++ advances_by f.step) (run-left advance w.propagations f.ahead (begin a) f.left f.ran).advances
      ∙ flat_map_snoc advances_by f.ahead f.step

  ended : (z : State) → run_of advance n w ss es a ≡ go z → length z.advances ≤ w.propagations
  unfolding run_of
  ended z e = run-few advance w.propagations (schedule n w ss es) (begin a) z zero-le e

  budgeted : (c : ℕ) (t : Float) (z : State) → run_of advance n w ss es a ≡ stop c t z → Budgeted w.propagations c (length z.advances)
  budgeted c t z e =
      let f = (first_met n advance laws w ss es g a fine c t).0 (z, e) in
      subst (λ (m : List Advance). Budgeted w.propagations c (length m)) (sym (stopped-left c t z e f))
      (budgeted-meets f.meets (run-few advance w.propagations f.ahead (begin a) f.left zero-le f.ran))

  in_cycle : Cycle w → ((z : State) × (run_of advance n w ss es a ≡ go z))
      ⊎ ((c : ℕ) × (t : Float) × (z : State) × (run_of advance n w ss es a ≡ stop c t z) × T (one_of c stop_numbers))
  in_cycle k = on (run_of advance n w ss es a) refl
    where
      on : (o : Outcome) → run_of advance n w ss es a ≡ o → ((z : State) × (run_of advance n w ss es a ≡ go z))
          ⊎ ((c : ℕ) × (t : Float) × (z : State) × (run_of advance n w ss es a ≡ stop c t z) × T (one_of c stop_numbers))
      on (go z) e = inl (z, e)
      on (stop c t z) e = inr (c, t, z, e, stop-numbers n advance laws w ss es g a fine k c t z e)

pub plain_run : EveryPlainRun
unfolding run_of
plain_run n advance Refuses laws w ss es g a fine = record {
  within = rows-within advance n w ss es g a;
  rows = rows_pass n advance w.propagations laws (schedule n w ss es) (begin a) (begin-sound n advance laws w ss es g a fine);
  reached = reached n advance laws w ss es g a fine;
  exact = first_met n advance laws w ss es g a fine;
  advances = stopped-advances n advance laws w ss es g a fine;
  ended = ended n advance laws w ss es g a fine;
  budgeted = budgeted n advance laws w ss es g a fine;
  cycle = in_cycle n advance laws w ss es g a fine;
}

pub samples_apart : EverySamplesApart
samples_apart n advance w w' ss ss' es a g g' p q z z' e e' = record {
  boundary_rows_lem = same_boundary_rows advance n w w' ss ss' es a z z' p q e e';
  readings = same-readings advance n w w' ss ss' es a z z' g g' p q e e';
}
