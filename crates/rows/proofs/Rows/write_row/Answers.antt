-- `rows::Rows::write_row` meets its contract.
use native.Mathlib.Omega.{arith}
use Prim.Native.Nat.{◌*◌}
use lib.ListN.{take}
use lib.Seq.{length-take-le}
use Rattle.rows.proofs.Puts.{put_one, put-lent, room_here}
use Rattle.rows.proofs.Rows.write_row.Goals as goal

pub returns-clause-times_after : goal.returns-clause-times_after
returns-clause-times_after c = put_one c.args.start.rows c.args.t c.args.self.now.times.now

pub returns-clause-sides_after : goal.returns-clause-sides_after
returns-clause-sides_after c = put_one c.args.start.rows c.args.side c.args.self.now.sides.now

pub returns-clause-values_after : goal.returns-clause-values_after
returns-clause-values_after c =
    let g = c.args in
    let k = g.start.rows in
    let h = room_here g.n k c.requires.1 in
    put-lent (k * g.n) (take g.n g.start.amounts) g.self.now.values.now _ (omega (arith, h.values, length-take-le g.n g.start.amounts (omega arith))) c.row_writer.ensures
