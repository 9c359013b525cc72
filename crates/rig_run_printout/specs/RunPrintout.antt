-- 01, "The sheet and its printout": the bytes that `rig-run` prints of a run. Definitions only.
use Rattle.std.specs.Prelude.{List, ◌++◌, ℕ, length, Float}
use Rattle.binary64.specs.Doubles.{plus_zero}
use Rattle.binary64.specs.Lists.{flat_map}
use Rattle.refusal.specs.Result.{Result, refused, done}
use Rattle.protocol.specs.Execute.{Row, Outcome, go, stop}
use Rattle.protocol.specs.Entry.{report_of, side_code}
use Rattle.printout.specs.Printout.{row_line, head_line, ordered_line, refused_text}
use Rattle.printout.specs.Printouts.{Printout}

abbrev pub row_text : Row → List ℕ
row_text r = row_line r.time (side_code r.side) r.amounts

-- `rows`, the rows, `ordered`; or `refused`, the number and the time
unfoldable pub outcome_text : Float → Result Outcome → List ℕ
outcome_text sum (refused c) = refused_text c plus_zero
outcome_text sum (done (stop c t s)) = refused_text c t
outcome_text sum (done (go s)) = head_line (length s.rows) ++ flat_map row_text s.rows ++ ordered_line sum

abbrev pub run_printout : Float → Result Outcome → Printout
run_printout sum o = record { number = (report_of o).number; text = outcome_text sum o }
