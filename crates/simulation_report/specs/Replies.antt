-- What a run is lent, and what the code replies.
use Rattle.std.specs.Prelude.{ℕ, Ok, Err, Result}
use Rattle.binary64.specs.Doubles.{plus_zero}
use Rattle.refusal.specs.Numbers.{refusal_number}
use Rattle.refusal.specs.declared.Refusal.{Refusal}
use Rattle.protocol.specs.Entry.{Room, RunReport}
use Rattle.simulation_report.specs.declared.Reached.{Reached}
use Rattle.simulation_report.specs.declared.RunError.{RunError}
use Rattle.simulation_report.specs.declared.Report.{Report}
use Rattle.simulation_report.specs.declared.RunError.TheVariants.{Refused, Stopped}

-- how many cells the lent slices have
abbrev pub room : ℕ → ℕ → ℕ → Room
room times sides values = record { times = times; sides = sides; values = values }

-- what the code replies
abbrev pub RunReply : Type 0
RunReply = Result Reached RunError

abbrev pub refused_ahead : Refusal → RunError
refused_ahead r = Refused r

-- case by case
abbrev pub run_reply : RunReply → RunReport
run_reply (Ok r) = record { number = 0; time = plus_zero; rows = r.rows; advances = r.advances }
run_reply (Err (Refused r)) = record { number = refusal_number r; time = plus_zero; rows = 0; advances = 0 }
run_reply (Err (Stopped r t m)) = record { number = refusal_number r; time = t; rows = 0; advances = m }

-- as numbers
abbrev pub reported : Report → RunReport
reported r = record { number = r.number; time = r.time; rows = r.rows; advances = r.advances }
