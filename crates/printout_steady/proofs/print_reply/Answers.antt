-- `printout_steady::print_reply` meets its contract.
use Rattle.printout.proofs.Replies.{prints_same}
use Rattle.printout_steady.specs.SteadyPrintout.{steady_text}
use Rattle.printout_steady.proofs.Lines.{refused-printout}
use Rattle.printout_steady.proofs.print_reply.Goals as goal

pub returns-in-Err : goal.returns-in-Err
returns-in-Err c =
    rw c.in-Err.is (prints_same (refused-printout c.in-Err.stop.refusal c.in-Err.stop.time _ c.args.solved.now.n c.args.solved.now.amounts.now c.args.solved.now.residual.now) c.print_refused.ensures)

pub returns-in-Ok : goal.returns-in-Ok
unfolding steady_text
returns-in-Ok c = rw c.in-Ok.is c.print_solved.ensures
