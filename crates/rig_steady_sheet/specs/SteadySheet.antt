-- 01, "The sheet and its printout": the closed cycle of a sheet, and the bytes that `rig-steady` prints of it. Definitions only.
use Rattle.std.specs.Prelude.{List, ℕ, ◌≤◌, length}
use Rattle.limits.specs.Limits.{states}
use Rattle.linear_pk.specs.declared.kernel.LinearPk.{LinearPk}
use Rattle.cycle.specs.Closed.{Timed, then, untimed, SteadyState}
use Rattle.sheet.specs.Sheet.{Sheet, read_sheet}
use Rattle.sheet_kernel.specs.Values.{model_of}
use Rattle.printout.specs.Printouts.{Printout}
use Rattle.printout_steady.specs.SteadyPrintout.{solved_length}
use Rattle.printout_steady.specs.SteadyReplies.{steady_printout}
use Rattle.rig_steady_cycle.specs.SheetCycle.{steady_with}

-- the model's 1 and 2, then the closed cycle; the amounts are passed over
unfoldable pub steady_sheet : Sheet → Timed SteadyState
unfolding steady_with
steady_sheet s = then (untimed (model_of s.model)) (λ (k : LinearPk). steady_with k s.window s.samples s.events)

-- the reader's 40 and 5 ahead of them
unfoldable pub steady_of_bytes : List ℕ → Timed SteadyState
unfolding steady_sheet
steady_of_bytes bs = then (untimed (read_sheet bs)) steady_sheet

-- ---- its printout
-- of the bytes of a file
abbrev pub steady_printout_of_bytes : List ℕ → Printout
steady_printout_of_bytes bs = steady_printout (steady_of_bytes bs)

-- ---- room for the printout of any sheet: the most states
abbrev pub most_steady_bytes : ℕ
most_steady_bytes = solved_length states

abbrev pub EverySteadyPrintoutFits : Type 0
EverySteadyPrintoutFits = (bs : List ℕ) → length (steady_printout_of_bytes bs).text ≤ most_steady_bytes
