-- `printout_steady::print_solved` meets its contract.
use mathlib.Core.Path.{refl}
use native.Mathlib.Omega.{arith}
use Rattle.printout.proofs.Printing.{no_room, with_room}
use Rattle.printout.proofs.Replies.{prints}
use Rattle.printout_steady.proofs.Lines.{front_length}
use Rattle.printout_steady.proofs.print_solved.Goals as goal

pub returns-then-solved-out : goal.returns-then-solved-out
returns-then-solved-out c =
    let s = c.args.solved.now in
    let size = front_length s.n c.args.maximum s.amounts.now s.residual.now s.held s.told in
    let w = no_room _ c.args.out.now (omega (arith, size)) in
    prints refl (omega (arith, size)) c.reply_of.ensures.0 c.reply_of.ensures.1 w.0 w.1

pub returns : goal.returns
returns c =
    let s = c.args.solved.now in
    let size = front_length s.n c.args.maximum s.amounts.now s.residual.now s.held s.told in
    let w = with_room _ c.args.out.now (omega (arith, size)) c.write_solved-length.ensures in
    prints refl (omega (arith, size)) c.reply_of-2.ensures.0 c.reply_of-2.ensures.1 w.0 w.1
