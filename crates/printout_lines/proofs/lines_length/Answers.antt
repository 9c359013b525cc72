-- `printout_lines::lines_length` meets its contract.
use mathlib.Core.Path.{refl}
use Prim.Native.Nat.{◌<◌}
use native.Mathlib.Omega.{arith}
use native.Mathlib.Numerals.{add-one}
use lib.ListN.{get_or, take}
use lib.Seq.{length-take-le}
use Rattle.std.proofs.lemmas.List.{get_or-take}
use Rattle.printout_rows.specs.Rows.{rows_length}
use Rattle.printout_lines.proofs.Most.{side-most, rows-most}
use Rattle.printout_lines.proofs.lines_length.Goals as goal

pub loop-side-init : goal.loop-side-init
unfolding rows_length
loop-side-init c = refl

pub overflow_add-sum-in-loop-side-2 : goal.overflow_add-sum-in-loop-side-2
overflow_add-sum-in-loop-side-2 c =
    let g = c.args in
    let l = c.loop-side in
    omega (
      arith,
      c.side_length.ensures,
      side-most (get_or (take g.rows g.sides.now) l.side-index 0),
      length-take-le g.rows g.sides.now c.requires.0,
      l.invariant,
      rows-most g.n g.sides.now l.side-index c.requires.1,
    )

pub loop-side-preserved : goal.loop-side-preserved
unfolding rows_length
loop-side-preserved c =
    let g = c.args in
    let l = c.loop-side in
    let within : l.side-index < g.rows = omega (arith, c.loop-side-test.true, length-take-le g.rows g.sides.now c.requires.0) in
    rw (add-one, c.side_length.ensures, get_or-take g.rows g.sides.now l.side-index 0 within, l.invariant)
