-- 01, "The sheet and its printout": the run of a sheet, and the bytes that `rig-run` prints of it. Definitions only.
use Rattle.std.specs.Prelude.{List, ℕ, ◌+◌, ◌*◌, ◌≤◌, length}
use Rattle.limits.specs.Limits.{states, sheet_rows}
use Rattle.binary64.specs.Doubles.{plus_zero}
use Rattle.refusal.specs.Result.{Result, refused, done, and_then}
use Rattle.linear_pk.specs.declared.kernel.LinearPk.{LinearPk}
use Rattle.protocol.specs.Execute.{Outcome}
use Rattle.events_layout.specs.Layout.{events_of}
use Rattle.sheet.specs.Sheet.{Sheet, read_sheet}
use Rattle.sheet_kernel.specs.Values.{model_of}
use Rattle.printout.specs.Printout.{places, row_length, refused_text}
use Rattle.sheet_events.specs.OrderedDoses.{ordered}
use Rattle.rig_run_sheet.specs.SheetRun.{run_with}
use Rattle.rig_run_printout.specs.RunPrintout.{run_printout}
pub use Rattle.printout.specs.Printouts.{Printout, number_into}

-- the model's 1 and 2, then the run
unfoldable pub run_sheet : Sheet → Result Outcome
run_sheet s = and_then (model_of s.model) (λ (k : LinearPk). run_with k s.window s.amounts s.samples s.events)

-- ---- its printout
-- of a sheet, or of the reader's 40 or 5
unfoldable pub run_printout_of : Result Sheet → Printout
run_printout_of (refused c) = record { number = c; text = refused_text c plus_zero }
run_printout_of (done s) = run_printout (ordered (events_of s.events)) (run_sheet s)

-- of the bytes of a file
abbrev pub printout_of_bytes : List ℕ → Printout
printout_of_bytes bs = run_printout_of (read_sheet bs)

-- ---- room for the printout of any sheet: the most rows of the most amounts, each at the longer side
abbrev pub most_bytes : ℕ
most_bytes = 31 + places 19 sheet_rows + sheet_rows * row_length states 0

abbrev pub EveryPrintoutFits : Type 0
EveryPrintoutFits = (bs : List ℕ) → length (printout_of_bytes bs).text ≤ most_bytes
