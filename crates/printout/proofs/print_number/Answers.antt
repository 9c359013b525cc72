-- `printout::print_number` meets its contract.
use native.Mathlib.Omega.{arith}
use Rattle.printout.specs.Printout.{refused_text}
use Rattle.printout.proofs.Lengths.{refused-text-length}
use Rattle.printout.proofs.Printing.{no_room, with_room}
use Rattle.printout.proofs.print_number.Goals as goal

pub returns-then-refused_length-out : goal.returns-then-refused_length-out
returns-then-refused_length-out c =
    let g = c.args in
    let w = no_room (refused_text g.number g.time) g.out.now (omega (arith, refused-text-length g.number g.time)) in
    record { value = w.0; out_after = w.1 }

pub write_refused-requires : goal.write_refused-requires
write_refused-requires c = omega (arith, refused-text-length c.args.number c.args.time)

pub returns : goal.returns
returns c =
    let g = c.args in
    let w = with_room (refused_text g.number g.time) g.out.now (omega (arith, refused-text-length g.number g.time)) c.write_refused.ensures in
    record { value = w.0; out_after = w.1 }
