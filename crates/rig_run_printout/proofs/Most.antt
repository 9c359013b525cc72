-- The most bytes of a printout.
use mathlib.Core.Path.{◌≡◌, refl, sym, ap, ◌∙◌, subst}
use mathlib.Core.Bool.{Bool, true, false, cond}
use mathlib.Core.List.{List, []}
use Prim.Native.Nat.{ℕ, ◌+◌, ◌≤◌}
use native.Mathlib.Nat.{le_trans}
use native.Mathlib.Omega.{arith}
use borrow.Author.Tests.{leb-true}
use lib.Dec.{eqb, leb}
use lib.ListN.{length}
use lib.Ieee.{Float}
use Rattle.limits.specs.Limits.{states, most_cycle_events, most_samples, sheet_rows}
use Rattle.binary64.specs.Doubles.{plus_zero}
use Rattle.refusal.specs.Result.{Result, refused, done}
use Rattle.linear_pk.specs.LinearPk.{state_count}
use Rattle.linear_pk.specs.declared.kernel.LinearPk.{LinearPk}
use Rattle.linear_pk.proofs.Counted.{and_first, and_second}
use Rattle.protocol.specs.Entry.{report_of, times_at_exit, sides_at_exit, values_at_exit}
use Rattle.events_layout.specs.Layout.{event_count, events_of}
use Rattle.sheet.specs.Sheet.{Sheet, within_limits, read_sheet}
use Rattle.sheet_kernel.specs.Values.{model_of}
use Rattle.sheet.proofs.Reading.{read_limits}
use Rattle.printout.specs.Printout.{places, rows_length, text_length, refused_text}
use Rattle.printout.proofs.Lengths.{places-most, text-length, refused-text-length}
use Rattle.printout_lines.proofs.Most.{rows-most, places_mono}
use Rattle.printout.specs.Printouts.{Printout}
use Rattle.sheet_events.specs.OrderedDoses.{ordered}
use Rattle.rig_run_sheet.specs.SheetRun.{run_with, reckoned_of}
use Rattle.rig_run_sheet.proofs.Amounts.{few-states}
use Rattle.rig_run_sheet.proofs.Words.{reckoned-words}
use Rattle.rig_run_printout.specs.RunPrintout.{outcome_text}
use Rattle.rig_run_printout.proofs.Runs.{run_kept}
use Rattle.rig_run_printout.specs.Rig.{run_printout_of, most_bytes, EveryPrintoutFits}
use Rattle.rig_run_printout.proofs.Sheets.{sheet-refused, sheet_runs}

length_most : (number rows n : ℕ) (sides : List ℕ) → rows ≤ sheet_rows → n ≤ states → text_length number rows n sides ≤ most_bytes
unfolding text_length
length_most number rows n sides r h = on (eqb number 0)
  where
    on : (b : Bool) → cond b (31 + places 19 rows + rows_length n rows sides) (26 + places 19 number) ≤ most_bytes
    on true = omega (arith, places_mono 19 rows sheet_rows r, rows-most n sides rows h)
    on false = omega (arith, places-most 19 number)

refusal-most : (c : ℕ) (t : Float) → length (refused_text c t) ≤ most_bytes
refusal-most c t = omega (arith, refused-text-length c t, places-most 19 c)

run-most : (k : LinearPk) (w a ss es : List ℕ) (sum : Float) → reckoned_of ss es ≤ sheet_rows → length (outcome_text sum (run_with k w a ss es)) ≤ most_bytes
run-most k w a ss es sum h =
    let o = run_with k w a ss es in
    let R = reckoned_of ss es in
    let n = state_count k in
    let f = run_kept k w a ss es in
    subst (λ (l : ℕ). l ≤ most_bytes)
    (sym (ap length (sym (f.same sum [] [] [])) ∙ text-length (report_of o).number (report_of o).time (report_of o).rows n sum
    (times_at_exit R o []) (sides_at_exit R o []) (values_at_exit R n o []) f.room))
    (length_most (report_of o).number (report_of o).rows n (sides_at_exit R o []) (le_trans f.within h) (few-states k))

pub every_printout_fits : EveryPrintoutFits
unfolding run_printout_of
every_printout_fits bs = on (read_sheet bs) refl
  where
    rows : (s : Sheet) → within_limits s ≡ true → reckoned_of s.samples s.events ≤ sheet_rows
    rows s l =
        let few = leb-true (event_count s.events) most_cycle_events (and_first (leb (event_count s.events) most_cycle_events)
        (leb (length s.samples) most_samples) l) in
        let some = leb-true (length s.samples) most_samples (and_second (leb (event_count s.events) most_cycle_events)
        (leb (length s.samples) most_samples) l) in
        omega (arith, few, some, reckoned-words s.samples s.events)

    model : (s : Sheet) → within_limits s ≡ true → (m : Result LinearPk) → model_of s.model ≡ m → length (run_printout_of (done s)).text ≤ most_bytes
    model s l (refused c) e = subst (λ (p : Printout). length p.text ≤ most_bytes) (sym (sheet-refused s e)) (refusal-most c plus_zero)
    model s l (done k) e = subst (λ (p : Printout). length p.text ≤ most_bytes) (sym (sheet_runs s e))
        (run-most k s.window s.amounts s.samples s.events (ordered (events_of s.events)) (rows s l))

    on : (r : Result Sheet) → read_sheet bs ≡ r → length (run_printout_of r).text ≤ most_bytes
    on (refused c) e = refusal-most c plus_zero
    on (done s) e = model s (read_limits bs e) (model_of s.model) refl
