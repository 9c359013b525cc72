-- `printout_cycle::PrintedCycle::print` meets its contract.
use mathlib.Core.Path.{refl}
use native.Mathlib.Omega.{arith}
use Rattle.printout.proofs.Printing.{no_room, with_room}
use Rattle.printout.proofs.Replies.{prints}
use Rattle.printout_cycle.specs.CyclePrintout.{lines_text}
use Rattle.printout_cycle.proofs.Lines.{text_some, front_length}
use Rattle.printout_cycle.proofs.PrintedCycle.print.Goals as goal

pub returns-then-lines_length-out : goal.returns-then-lines_length-out
returns-then-lines_length-out c =
    let s = c.args.self.now in
    let size = front_length s.tolerance s.n s.starts.now s.ends.now _ s.held s.ended c.closes-closed.ensures in
    let w = no_room _ c.args.out.now (omega (arith, size)) in
    prints refl (text_some _) c.reply_of.ensures.0 c.reply_of.ensures.1 w.0 w.1

pub returns : goal.returns
unfolding lines_text
returns c =
    let s = c.args.self.now in
    let size = front_length s.tolerance s.n s.starts.now s.ends.now _ s.held s.ended c.closes-closed.ensures in
    let w = with_room _ c.args.out.now (omega (arith, size)) (rw c.closes-closed.ensures at c.write-length.ensures) in
    prints refl (text_some _) c.reply_of-2.ensures.0 c.reply_of-2.ensures.1 w.0 w.1
