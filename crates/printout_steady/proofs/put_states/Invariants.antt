-- `printout_steady::put_states` meets its contract. The invariant: the lines of the states so far are written.
use lib.ListN.{length, take}
use Rattle.printout_numbers.specs.Writer.{Writes}
use Rattle.printout_steady.specs.SteadyPrintout.{state_lines}
use Rattle.printout_steady.proofs.put_states.Given as goal

abbrev pub invariant-loop-amount : goal.invariant-loop-amount
invariant-loop-amount l = Writes (state_lines (take (length l.yielded) (take l.solved.n l.solved.amounts.now)) (take (length l.yielded) (take l.solved.n l.solved.residual.now))) l.initial.w l.w
