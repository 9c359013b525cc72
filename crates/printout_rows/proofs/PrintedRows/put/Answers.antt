-- `printout_rows::PrintedRows::put` meets its contract.
use native.Mathlib.Omega.{arith}
use native.Mathlib.Numerals.{add-one}
use Prim.Native.Nat.{◌*◌}
use Rattle.printout_rows.specs.Rows.{row_lines}
use Rattle.printout_numbers.proofs.Writing.{writes_both, writes_none}
use Rattle.printout_rows.proofs.Lengths.{part-size, rows-below}
use Rattle.printout_rows.proofs.PrintedRows.put.Goals as goal

pub loop-k-init : goal.loop-k-init
unfolding row_lines
loop-k-init c = writes_none _

pub row_line-requires : goal.row_line-requires
row_line-requires c =
    let g = c.args.self.now in
    let l = c.loop-k in
    let more = rows-below g.n g.times.now g.sides.now g.values.now l.k g.rows c.loop-k-test.true in
    rw (part-size (l.k * g.n) g.n) (omega (arith, c.requires))

pub loop-k-preserved : goal.loop-k-preserved
unfolding row_lines
loop-k-preserved c =
    let g = c.args.self.now in
    let l = c.loop-k in
    rw add-one (writes_both l.invariant (rw (part-size (l.k * g.n) g.n) at c.row_line.ensures))
