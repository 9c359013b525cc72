-- 01, "The sheet and its printout": the bytes that `rig-run` prints of a kernel and the other bodies of a sheet. Definitions only.
use Rattle.std.specs.Prelude.{ℕ, Float}
use Rattle.linear_pk.specs.declared.kernel.LinearPk.{LinearPk}
use Rattle.events_layout.specs.Layout.{events_of}
use Rattle.sheet.specs.Sheet.{words_of}
use Rattle.sheet_kernel.specs.declared.bodies.Bodies.{Bodies}
use Rattle.printout.specs.Printouts.{Printout}
use Rattle.sheet_events.specs.OrderedDoses.{ordered}
use Rattle.rig_run_sheet.specs.SheetRun.{run_with, reckoned_of}
use Rattle.rig_run_printout.specs.RunPrintout.{run_printout}

-- the rows that the run may have
abbrev pub reckoned_in : Bodies → ℕ
reckoned_in b = reckoned_of (words_of b.samples.now) (words_of b.events.now)

-- the sum of the doses
abbrev pub doses_in : Bodies → Float
doses_in b = ordered (events_of (words_of b.events.now))

abbrev pub bodies_printout : LinearPk → Bodies → Printout
bodies_printout k b = run_printout (doses_in b)
    (run_with k (words_of b.window.now) (words_of b.amounts.now) (words_of b.samples.now) (words_of b.events.now))
