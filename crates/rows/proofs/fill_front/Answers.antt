use lib.ListN.{take}
use Rattle.rows.proofs.Puts.{fill_next}
use Rattle.rows.proofs.fill_front.Goals as goal

pub loop-cell-preserved : goal.loop-cell-preserved
loop-cell-preserved g c =
    let l = c.loop-cell in
    rw l.invariant (fill_next l.cell-index c.args.value (take c.args.count c.args.cells.now) c.loop-cell-test.true)
