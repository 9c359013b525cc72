-- A sheet's printout: the refusal of its reader or its model, or its run.
use mathlib.Core.Path.{◌≡◌, refl, sym, ap}
use mathlib.Core.List.{List}
use Prim.Native.Nat.{ℕ}
use Rattle.refusal.specs.Result.{Result, refused, done, and_then}
use Rattle.linear_pk.specs.declared.kernel.LinearPk.{LinearPk}
use Rattle.events_layout.specs.Layout.{events_of}
use Rattle.sheet.specs.Sheet.{Sheet}
use Rattle.sheet_kernel.specs.Values.{model_of}
use Rattle.sheet_kernel.specs.SheetWords.{SheetWords, words_with, read_bodies}
use Rattle.sheet_kernel.proofs.Kernels.{entry-refuses, entry_runs}
use Rattle.printout.specs.Printouts.{Printout}
use Rattle.printout.specs.Replies.{refusal}
use Rattle.sheet_events.specs.OrderedDoses.{ordered}
use Rattle.rig_run_sheet.specs.SheetRun.{run_with}
use Rattle.rig_run_printout.specs.RunPrintout.{outcome_text, run_printout}
use Rattle.rig_run_printout.specs.Rig.{run_sheet, run_printout_of, printout_of_bytes}

-- the printout of a kernel and the words of window, amounts, samples and events
abbrev of_words : SheetWords → Printout
of_words b = run_printout (ordered (events_of b.events)) (run_with b.kernel b.window b.amounts b.samples b.events)

pub sheet-refused : (s : Sheet) {c : ℕ} → model_of s.model ≡ refused c → run_printout_of (done s) ≡ refusal c
unfolding run_printout_of run_sheet outcome_text
sheet-refused s e =
    ap (λ (r : Result LinearPk). run_printout (ordered (events_of s.events)) (and_then r
    (λ (k : LinearPk). run_with k s.window s.amounts s.samples s.events))) e

pub sheet_runs : (s : Sheet) {k : LinearPk} → model_of s.model ≡ done k → run_printout_of (done s) ≡ of_words (words_with s k)
unfolding run_printout_of run_sheet
sheet_runs s e =
    ap (λ (r : Result LinearPk). run_printout (ordered (events_of s.events)) (and_then r
    (λ (k : LinearPk). run_with k s.window s.amounts s.samples s.events))) e

not_read : (c : ℕ) → run_printout_of (refused c) ≡ refusal c
unfolding run_printout_of
not_read c = refl

pub bytes_refused : (bs : List ℕ) {c : ℕ} → refused c ≡ read_bodies bs → refusal c ≡ printout_of_bytes bs
bytes_refused bs e = sym (entry-refuses run_printout_of refusal of_words not_read (λ s c e. sheet-refused s e) (λ s k e. sheet_runs s e) bs e)

pub bytes_run : (bs : List ℕ) {b : SheetWords} → done b ≡ read_bodies bs → of_words b ≡ printout_of_bytes bs
bytes_run bs e = sym (entry_runs run_printout_of refusal of_words not_read (λ s c e. sheet-refused s e) (λ s k e. sheet_runs s e) bs e)
