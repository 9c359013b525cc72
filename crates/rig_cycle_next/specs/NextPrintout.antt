-- The printout of one more cycle from the amounts of a closed one. Definitions only.
use Rattle.std.specs.Prelude.{ℕ}
use Rattle.cycle.specs.Closed.{Timed, stopped, got}
use Rattle.printout.specs.Printouts.{Printout}
use Rattle.printout_cycle.specs.CyclePrintout.{NextCycle, cycle_text}

-- 0 where there is no refusal
abbrev pub timed_number : {A : Type 0} → Timed A → ℕ
timed_number (stopped c t) = c
timed_number (got a) = 0

abbrev pub cycle_printout : Timed NextCycle → Printout
cycle_printout o = record { number = timed_number o; text = cycle_text o }
