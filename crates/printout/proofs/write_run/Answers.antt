-- `printout::write_run` meets its contract.
use native.Mathlib.Omega.{arith}
use borrow.Author.Rules.{rules}
use Rattle.printout.specs.Printout.{rows_text, ordered_line}
use Rattle.printout_numbers.proofs.Writing.{writes_both}
use Rattle.printout.proofs.Lengths.{ordered-length, rows-text-parts}
use Rattle.printout.proofs.write_run.Goals as goal

pub put_head-requires : goal.put_head-requires
put_head-requires c =
    let r = c.args.rows.now in
    omega (arith, rows-text-parts r.rows r.n c.args.ordered r.times.now r.sides.now r.values.now)

pub put-requires : goal.put-requires
put-requires c =
    let r = c.args.rows.now in
    omega (arith, rows-text-parts r.rows r.n c.args.ordered r.times.now r.sides.now r.values.now)

pub put_named-requires : goal.put_named-requires
put_named-requires c =
    let r = c.args.rows.now in
    omega (arith, rows-text-parts r.rows r.n c.args.ordered r.times.now r.sides.now r.values.now, ordered-length c.args.ordered)

pub returns : goal.returns
unfolding rows_text ordered_line
returns c =
    let w = writes_both (writes_both c.put_head.ensures c.put.ensures) c.put_named.ensures in
    let lent = w.lent in
    let wrote = w.wrote in
    search rules
