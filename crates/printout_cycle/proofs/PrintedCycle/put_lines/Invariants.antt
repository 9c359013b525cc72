-- `printout_cycle::PrintedCycle::put_lines` meets its contract. The invariant: the lines of the states so far are written.
use lib.ListN.{length, take}
use Rattle.printout_numbers.specs.Writer.{Writes}
use Rattle.printout_cycle.specs.Lines.{cycle_lines}
use Rattle.printout_cycle.proofs.PrintedCycle.put_lines.Given as goal

abbrev pub invariant-loop-start : goal.invariant-loop-start
invariant-loop-start l = Writes (cycle_lines l.self.tolerance (take (length l.yielded) (take l.self.n l.self.starts.now)) (take (length l.yielded) (take l.self.n l.self.ends.now))) l.initial.w l.w
