-- 01, "The sheet and its printout": the bytes that `rig-steady` prints of a closed cycle. Definitions only.
use Rattle.std.specs.Prelude.{List, ℕ, Float}
use Rattle.cycle.specs.Closed.{Timed, SteadyState, SteadyReport, steady_report_of}
use Rattle.printout.specs.Printouts.{Printout}
use Rattle.printout_steady.specs.SteadyPrintout.{steady_text, steady_result}

abbrev pub steady_printout : Timed SteadyState → Printout
steady_printout o = record { number = (steady_report_of o).number; text = steady_text o }

-- the printout of a reply and of n states in front of two slices
abbrev pub steady_printout_of : SteadyReport → ℕ → List Float → List Float → Printout
steady_printout_of r n amounts residual = record { number = r.number; text = steady_text (steady_result r.number r.time n r.maximum amounts residual) }
