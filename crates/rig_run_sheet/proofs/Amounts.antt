-- The entry's run is the sheet's: five amounts say as much as more.
use mathlib.Core.Path.{◌≡◌, refl, sym, ap, ap₂, ◌∙◌}
use mathlib.Core.Bool.{Bool, true, false, cond, ◌&&◌}
use mathlib.Core.List.{List, [], ◌∷◌}
use mathlib.Core.Option.{Option, some, none}
use Prim.Native.Nat.{ℕ, ◌+◌, ◌*◌, ◌≤◌}
use native.Mathlib.Nat.{le_trans, mul-le-mul_right}
use native.Mathlib.Omega.{arith}
use borrow.Author.Tests.{leb-true, leb-false, ne_eqb}
use lib.Dec.{eqb, leb, ltb}
use lib.ListN.{length, take}
use lib.Ieee.{Float}
use Rattle.limits.specs.Limits.{states, most_cycle_events, most_events, most_samples, sheet_rows, sheet_values, read_amounts}
use Rattle.binary64.specs.Doubles.{nonnegative}
use Rattle.binary64.specs.Lists.{all, amounts_pass}
use Rattle.matrix.specs.Matrix.{tabulate}
use Rattle.matrix.proofs.Filled.{tabulate-length}
use Rattle.refusal.specs.Result.{Result, refused}
use Rattle.linear_pk.specs.LinearPk.{central, compartments_pass, sound, state_count}
use Rattle.linear_pk.proofs.Counted.{and_second}
use Rattle.linear_pk.specs.declared.kernel.LinearPk.{LinearPk}
use Rattle.protocol.specs.declared.Event.{Event}
use Rattle.protocol.specs.declared.Window.{Window}
use Rattle.protocol.specs.First.{unless, first_of}
use Rattle.protocol.specs.Prepare.{reckoned, prepare}
use Rattle.protocol.specs.Execute.{Propagator, Outcome}
use Rattle.protocol.specs.Entry.{Room, room_for, first_refusal, simulate, report_of, times_at_exit, sides_at_exit, values_at_exit}
use Rattle.protocol.proofs.EntryLaws.{simulate-refuses}
use Rattle.preparation.specs.Preparation.{own_number}
use Rattle.simulation.specs.KernelRun.{propagator_of}
use Rattle.simulation.specs.Entries.{room, simulate_entry, run_reply}
use Rattle.simulation_report.specs.Replies.{RunReply}
use Rattle.events_layout.specs.Layout.{event_count, events_of}
use Rattle.events_layout.proofs.Laws.{all_held}
use Rattle.sheet_kernel.specs.Values.{double_of, doubles_from, sheet_window}
use Rattle.rig_run_sheet.specs.SheetRun.{doubles_of, room_of, run_with, reckoned_of}

-- the number of a run whose amounts do not pass
abbrev no_amounts : Bool → Option ℕ → ℕ
no_amounts false o = 5
no_amounts true (some c) = c
no_amounts true none = 3

module _ (advance : Propagator) (own : Option ℕ) (n : ℕ) (w : Window) (ss : List Float) (es : List Event) (cells : Room) where
  unfit : (a : List Float) → amounts_pass n a ≡ false → simulate advance own n w ss es a cells
      ≡ refused (no_amounts (leb (length es) most_events && leb (length ss) most_samples) own)
  unfolding first_refusal
  unfit a h =
      simulate-refuses advance own n w ss es a cells (no_amounts (leb (length es) most_events && leb (length ss) most_samples) own)
      (ap (λ (b : Bool). first_of (unless (leb (length es) most_events && leb (length ss) most_samples) 5 ∷ own ∷ unless b 3
      ∷ prepare n w ss es ∷ unless (room_for (reckoned ss es) n cells) 4 ∷ [])) h
      ∙ on (leb (length es) most_events && leb (length ss) most_samples) own (prepare n w ss es ∷ unless (room_for (reckoned ss es) n cells) 4 ∷ []))
    where
      on : (b : Bool) (o : Option ℕ) (os : List (Option ℕ)) → first_of (unless b 5 ∷ o ∷ some 3 ∷ os) ≡ some (no_amounts b o)
      on false o os = refl
      on true (some c) os = refl
      on true none os = refl

  -- five of more than five
  in_front : (f : ℕ → Float) (l : ℕ) → n ≤ states → simulate advance own n w ss es (tabulate
      (cond (leb l read_amounts) l read_amounts) f) cells ≡ simulate advance own n w ss es (tabulate l f) cells
  in_front f l h = on (leb l 5) refl
    where
      long : (m : ℕ) → 5 ≤ m → amounts_pass n (tabulate m f) ≡ false
      long m g =
          ap (λ (k : ℕ). eqb k n && all nonnegative (tabulate m f)) (tabulate-length f m)
          ∙ ap (λ (b : Bool). b && all nonnegative (tabulate m f)) (ne_eqb m n (λ e. omega arith))

      on : (b : Bool) → leb l 5 ≡ b → simulate advance own n w ss es (tabulate (cond b l 5) f) cells ≡ simulate advance own n w ss es (tabulate l f) cells
      on true e = refl
      on false e = let g = leb-false l 5 e in unfit (tabulate 5 f) (long 5 (omega arith)) ∙ sym (unfit (tabulate l f) (long l (omega arith)))

module _ (k : LinearPk) (w a ss es : List ℕ) (few : state_count k ≤ states) where
  -- what the entry is given, and what 01's run is of
  pub entry-run : (known samples times sides values : ℕ)
      → known ≡ cond (leb (length a) read_amounts) (length a) read_amounts → samples ≡ length ss
      → times ≡ reckoned_of ss es → sides ≡ reckoned_of ss es → values ≡ reckoned_of ss es * state_count k
      → simulate_entry k (doubles_from a 0 known) (sheet_window w) (events_of es) (doubles_from ss 0 samples)
      (room times sides values) ≡ run_with k w a ss es
  unfolding simulate_entry run_with
  entry-run known samples times sides values q s t d v =
      rw (q, s, t, d, v)
      (in_front (propagator_of k) (own_number (sound k)) (state_count k) (sheet_window w) (doubles_of ss) (events_of es)
      (room_of (reckoned_of ss es) (state_count k)) (λ (j : ℕ). double_of a (0 + j)) (length a) few)

  -- the entry's answers are the run's
  pub entry_answers : (times : List Float) (sides : List ℕ) (values : List Float) (reply : RunReply) {initial readings : List Float}
      {span : Window} {list : List Event} {times' values' : List Float} {sides' : List ℕ} {known samples : ℕ}
      → initial ≡ doubles_from a 0 known → readings ≡ doubles_from ss 0 samples → list ≡ take most_events (events_of es) → span ≡ sheet_window w
      → event_count es ≤ most_cycle_events → known ≡ cond (leb (length a) read_amounts) (length a) read_amounts → samples ≡ length ss
      → length times ≡ reckoned_of ss es → length sides ≡ reckoned_of ss es → length values ≡ reckoned_of ss es * state_count k
      → run_reply reply ≡ report_of (simulate_entry k initial span list readings (room (length times) (length sides) (length values)))
      → times' ≡ times_at_exit (reckoned readings list) (simulate_entry k initial span list readings
      (room (length times) (length sides) (length values))) times
      → sides' ≡ sides_at_exit (reckoned readings list) (simulate_entry k initial span list readings
      (room (length times) (length sides) (length values))) sides
      → values' ≡ values_at_exit (reckoned readings list) (state_count k) (simulate_entry k initial span list readings
      (room (length times) (length sides) (length values))) values
      → (run_reply reply ≡ report_of (run_with k w a ss es)) × ((times' ≡ times_at_exit (reckoned_of ss es) (run_with k w a ss es) times)
      × ((sides' ≡ sides_at_exit (reckoned_of ss es) (run_with k w a ss es) sides)
      × (values' ≡ values_at_exit (reckoned_of ss es) (state_count k) (run_with k w a ss es) values)))
  entry_answers times sides values reply {initial} {readings} {span} {list} {times'} {values'} {sides'} {known}
      {samples} i r v s l q m t d u x0 x1 x2 x3 =
      let whole : list ≡ events_of es = v ∙ all_held es l in
      let same : simulate_entry k initial span list readings (room (length times) (length sides) (length values))
      ≡ run_with k w a ss es = rw (i, r, whole, s) (entry-run known samples (length times) (length sides)
      (length values) q m t d u) in
      let rows : reckoned readings list ≡ reckoned_of ss es = rw (r, whole, m) in (
        x0 ∙ ap report_of same,
        (
          x1 ∙ ap₂ (λ (j : ℕ) (o : Result Outcome). times_at_exit j o times) rows same,
          (
            x2 ∙ ap₂ (λ (j : ℕ) (o : Result Outcome). sides_at_exit j o sides) rows same,
            x3
                ∙ ap₂ (λ (j : ℕ) (o : Result Outcome). values_at_exit j (state_count k) o values) rows same,
          ),
        ),
      )

-- five at most
pub known_most : (l : ℕ) → cond (leb l read_amounts) l read_amounts ≤ l
known_most l = on (leb l 5) refl
  where
    on : (b : Bool) → leb l 5 ≡ b → cond b l 5 ≤ l
    on true e = omega arith
    on false e = let g = leb-false l 5 e in omega arith

-- no kernel has more states
pub few-states : (k : LinearPk) → state_count k ≤ states
unfolding state_count
few-states k = on (compartments_pass k) refl
  where
    one : (b : Bool) → central b ≤ 1
    one true = omega arith
    one false = omega arith

    on : (b : Bool) → compartments_pass k ≡ b → cond b (k.compartments + central k.depot) 0 ≤ states
    on true e = omega (arith, one k.depot, leb-true k.compartments 3 (and_second (ltb 0 k.compartments) (leb k.compartments 3) e))
    on false e = omega arith

-- ---- the cells of the reckoned rows
pub cells-most : (rows n : ℕ) → rows ≤ sheet_rows → n ≤ states → rows * n ≤ sheet_values
cells-most rows n r h = le_trans (mul-le-mul_right n r) (omega arith)

pub known_five : (l : ℕ) → cond (leb l read_amounts) l read_amounts ≤ 5
known_five l = on (leb l 5) refl
  where
    on : (b : Bool) → leb l 5 ≡ b → cond b l 5 ≤ 5
    on true e = leb-true l 5 e
    on false e = omega arith
