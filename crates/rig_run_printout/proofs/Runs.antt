-- The run of a sheet: its rows lie within the reckoned ones, no refusal has the number 0, and the printout over the slices is that of the outcome.
use mathlib.Core.Path.{◌≡◌, refl, sym, ap, ap₂, ◌∙◌, subst}
use mathlib.Core.List.{List, [], ◌++◌}
use mathlib.Core.Option.{Option, some, none}
use Prim.Native.Nat.{ℕ, ◌+◌, ◌*◌, ◌≤◌, zero-le}
use native.Mathlib.Nat.{zero-mul}
use native.Mathlib.Omega.{arith}
use lib.Dec.{T}
use lib.ListN.{length, length-append}
use lib.Ieee.{Float, binary64, fits}
use lib.Ieee.Bits.{of_bits-fits}
use Rattle.binary64.specs.Doubles.{plus_zero}
use Rattle.binary64.specs.Lists.{all, flat_map, amounts_pass}
use Rattle.matrix.specs.Matrix.{tabulate}
use Rattle.refusal.specs.Result.{Result, refused, done}
use Rattle.linear_pk.specs.LinearPk.{sound, state_count}
use Rattle.linear_pk.specs.declared.kernel.LinearPk.{LinearPk}
use Rattle.protocol.specs.Prepare.{prepare}
use Rattle.protocol.specs.Execute.{Pre, Row, State, Outcome, go, stop, run_of}
use Rattle.protocol.specs.Entry.{first_refusal, simulate, RunReport, report_of, times_at_exit, sides_at_exit, values_at_exit}
use Rattle.protocol.specs.PlainRun.{Prepared, PlainRun, rows_left}
use Rattle.protocol.proofs.Conditions.{meets-above}
use Rattle.protocol.proofs.EntryLaws.{Passes, n_each, ahead_none, simulate_runs, simulate-refuses}
use Rattle.preparation.specs.Preparation.{own_number}
use Rattle.preparation.proofs.Positive.{Positive, ahead-positive}
use Rattle.simulation.specs.KernelRun.{propagator_of, refusal_of}
use Rattle.simulation.proofs.KernelRuns.{kernel-run}
use Rattle.simulation.proofs.Whole.{own_none}
use Rattle.events_layout.specs.Layout.{events_of}
use Rattle.sheet_kernel.specs.Values.{double_of, sheet_window}
use Rattle.printout.specs.Printout.{rows_text, run_text, head_line, ordered_line}
use Rattle.printout.specs.Replies.{refused_at, answer}
use Rattle.printout.proofs.Replies.{refusal-text, refusal_some}
use Rattle.rig_run_sheet.specs.SheetRun.{doubles_of, room_of, run_with, reckoned_of}
use Rattle.rig_run_sheet.proofs.Words.{all_made, times-made, start-made, end-made}
use Rattle.rig_run_printout.specs.RunPrintout.{outcome_text, run_printout}
use Rattle.rig_run_printout.proofs.Lines.{row_lines_lem}

-- a sheet's list that passes has what is claimed of plain runs
prepared : (n : ℕ) (w ss es : List ℕ) → prepare n (sheet_window w) (doubles_of ss) (events_of es) ≡ none → Prepared n (sheet_window w) (doubles_of ss) (events_of es)
unfolding tabulate
prepared n w ss es h = record {
  start_fits = start-made w;
  end_fits = end-made w;
  samples_fit = all_made (fits binary64) (λ (k : ℕ). double_of ss (0 + k)) (λ i. of_bits-fits binary64 _) 0 (length ss);
  times_fit = times-made es;
  passes = h;
}

-- ---- a text has bytes
pub text_some : (sum : Float) (o : Result Outcome) → 1 ≤ length (outcome_text sum o)
unfolding outcome_text head_line
text_some sum (refused c) = refusal_some c plus_zero
text_some sum (done (stop c t s)) = refusal_some c t
text_some sum (done (go s)) = omega arith

-- ---- the printout over the slices
module _ (k : LinearPk) (w a ss es : List ℕ) where
  abbrev R : ℕ
  R = reckoned_of ss es

  abbrev n : ℕ
  n = state_count k

  abbrev outcome : Outcome
  outcome = run_of (propagator_of k) n (sheet_window w) (doubles_of ss) (events_of es) (doubles_of a)

  -- the rows of an outcome are within, and its number is not 0 where it stops
  pub record Kept (o : Result Outcome) : Type 0 where
    pub within : (report_of o).rows ≤ R
    pub room : (report_of o).rows * n ≤ length (values_at_exit R n o [])
    pub same : (sum : Float) (times : List Float) (sides : List ℕ) (values : List Float)
        → run_text (report_of o).number (report_of o).time (report_of o).rows n sum (times_at_exit R o times) (sides_at_exit R o sides)
        (values_at_exit R n o values) ≡ outcome_text sum o

  no_cells : {m : ℕ} → 0 * n ≤ m
  no_cells {m} = subst (λ (j : ℕ). j ≤ m) (sym (zero-mul n)) zero-le

  more : {A : Type 0} (xs ys : List A) → length xs ≤ length (xs ++ ys)
  more xs ys = omega (arith, length-append xs ys)

  refused_kept : (c : ℕ) → 1 ≤ c → Kept (refused c)
  unfolding outcome_text
  refused_kept c h = record { within = zero-le; room = no_cells; same = λ sum times sides values. refusal-text c 0 n plus_zero sum times sides values h }

  began_kept : (o : Outcome) → length (rows_left o) ≤ R → T (all (λ (r : Row). amounts_pass n r.amounts) (rows_left o))
      → ((c : ℕ) (t : Float) (z : State) → o ≡ stop c t z → 1 ≤ c) → Kept (done o)
  unfolding outcome_text run_text rows_text
  began_kept (stop c t z) l p q = record {
    within = zero-le;
    room = no_cells;
    same = λ sum times sides values. refusal-text c 0 n t sum
        (times_at_exit R (done (stop c t z)) times) (sides_at_exit R (done (stop c t z)) sides) (values_at_exit R n (done (stop c t z)) values)
        (q c t z refl);
  }
  began_kept (go z) l p q = record {
    within = l;
    room = subst (λ (j : ℕ). j ≤ length (values_at_exit R n (done (go z)) [])) (n_each n z.rows p) (more (flat_map (λ (r : Row). r.amounts) z.rows) _);
    same =
        λ sum times sides values. ap (λ (x : List ℕ). head_line (length z.rows) ++ x ++ ordered_line sum)
        (row_lines_lem n z.rows p _ _ _ (record { time = sum; side = Pre; amounts = [] }));
  }

  pub run_kept : Kept (run_with k w a ss es)
  unfolding run_with
  run_kept = on (first_refusal (own_number (sound k)) n (sheet_window w) (doubles_of ss) (events_of es) (doubles_of a) (room_of R n)) refl
    where
      facts : Passes (own_number (sound k)) n (sheet_window w) (doubles_of ss) (events_of es) (doubles_of a) (room_of R n)
          → PlainRun (propagator_of k) (refusal_of k) n (sheet_window w) (doubles_of ss) (events_of es) (doubles_of a)
      facts p = kernel-run k (own_none k p.kernel) (sheet_window w) (doubles_of ss) (events_of es) (prepared n w ss es p.prepared) (doubles_of a) p.amounts

      on : (o : Option ℕ) → first_refusal (own_number (sound k)) n (sheet_window w) (doubles_of ss) (events_of es) (doubles_of a) (room_of R n) ≡ o
          → Kept (simulate (propagator_of k) (own_number (sound k)) n (sheet_window w) (doubles_of ss) (events_of es) (doubles_of a) (room_of R n))
      on none e =
          let f = facts (ahead_none (own_number (sound k)) n (sheet_window w) (doubles_of ss) (events_of es) (doubles_of a) (room_of R n) e) in
          subst Kept (sym (simulate_runs (propagator_of k) (own_number (sound k)) n (sheet_window w) (doubles_of ss) (events_of es) (doubles_of a) (room_of R n) e))
          (began_kept outcome f.within f.rows (λ (c : ℕ) (t : Float) (z : State) (q : outcome ≡ stop c t z). meets-above ((f.exact c t).0 (z, q)).meets))
      on (some c) e =
          subst Kept (sym (simulate-refuses (propagator_of k) (own_number (sound k)) n (sheet_window w) (doubles_of ss) (events_of es)
          (doubles_of a) (room_of R n) c e))
          (refused_kept c (subst Positive e (ahead-positive k n (sheet_window w) (doubles_of ss) (events_of es) (doubles_of a) (room_of R n))))

  -- a report that tells it
  module _ {report : RunReport} (e : report ≡ report_of (run_with k w a ss es)) where
    abbrev o : Result Outcome
    o = run_with k w a ss es

    pub rows-within : report.rows ≤ R
    rows-within = subst (λ (x : RunReport). x.rows ≤ R) (sym e) run_kept.within

    run-text : (sum : Float) (times : List Float) (sides : List ℕ) (values : List Float)
        → run_text report.number report.time report.rows n sum (times_at_exit R o times) (sides_at_exit R o sides) (values_at_exit R n o values)
        ≡ outcome_text sum o
    run-text sum times sides values =
        ap (λ (x : RunReport). run_text x.number x.time x.rows n sum (times_at_exit R o times) (sides_at_exit R o sides) (values_at_exit R n o values)) e
        ∙ run_kept.same sum times sides values

    told : {c : ℕ} {text : List ℕ} (sum : Float) → c ≡ report.number → text ≡ outcome_text sum o → record { number = c; text = text } ≡ run_printout sum o
    told sum h t = ap₂ (λ (c : ℕ) (text : List ℕ). record { number = c; text = text }) (h ∙ ap (λ (x : RunReport). x.number) e) t

    pub refused-printout : (sum : Float) → 1 ≤ report.number → refused_at report.number report.time ≡ run_printout sum o
    refused-printout sum h =
        told sum refl (sym (refusal-text report.number report.rows n report.time sum (times_at_exit R o []) (sides_at_exit R o []) (values_at_exit R n o []) h)
        ∙ run-text sum [] [] [])

    pub reached-printout : (times : List Float) (sides : List ℕ) (values : List Float) {count : ℕ} {sum sum' : Float} {times' : List Float}
        {sides' : List ℕ} {values' : List Float} → 0 ≡ report.number → count ≡ n → sum' ≡ sum
        → times' ≡ times_at_exit R o times → sides' ≡ sides_at_exit R o sides → values' ≡ values_at_exit R n o values
        → answer (rows_text report.rows count sum' times' sides' values') ≡ run_printout sum o
    unfolding run_text
    reached-printout times sides values {count} {sum} h c s t d v =
        rw (c, s, t, d, v) (told sum h (ap (λ (j : ℕ). run_text j report.time report.rows n sum (times_at_exit R o times) (sides_at_exit R o sides)
        (values_at_exit R n o values)) h ∙ run-text sum times sides values))
