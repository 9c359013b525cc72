-- `printout::print_run` meets its contract.
use mathlib.Core.Path.{refl}
use native.Mathlib.Omega.{arith}
use Rattle.printout.specs.Printout.{rows_text}
use Rattle.printout.proofs.Lengths.{rows-text-length}
use Rattle.printout.proofs.Printing.{no_room, with_room}
use Rattle.printout.proofs.Replies.{prints}
use Rattle.printout.proofs.print_run.Goals as goal

pub returns-then-run_length-out : goal.returns-then-run_length-out
returns-then-run_length-out c =
    let g = c.args in
    let r = g.rows.now in
    let size = rows-text-length r.rows r.n g.ordered r.times.now r.sides.now r.values.now r.held.enough_values in
    let w = no_room (rows_text r.rows r.n g.ordered r.times.now r.sides.now r.values.now) g.out.now (omega (arith, size)) in
    prints refl (omega (arith, size)) c.reply_of.ensures.0 c.reply_of.ensures.1 w.0 w.1

pub write_run-length-requires : goal.write_run-length-requires
write_run-length-requires c =
    let r = c.args.rows.now in
    omega (arith, rows-text-length r.rows r.n c.args.ordered r.times.now r.sides.now r.values.now r.held.enough_values)

pub returns : goal.returns
returns c =
    let g = c.args in
    let r = g.rows.now in
    let size = rows-text-length r.rows r.n g.ordered r.times.now r.sides.now r.values.now r.held.enough_values in
    let w = with_room (rows_text r.rows r.n g.ordered r.times.now r.sides.now r.values.now) g.out.now (omega (arith, size)) c.write_run-length.ensures in
    prints refl (omega (arith, size)) c.reply_of-2.ensures.0 c.reply_of-2.ensures.1 w.0 w.1
