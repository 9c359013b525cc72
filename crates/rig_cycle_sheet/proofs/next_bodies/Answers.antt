-- `rig_cycle_sheet::next_bodies` meets its contract.
use mathlib.Core.Path.{sym, ◌∙◌}
use native.Mathlib.Omega.{arith}
use lib.Seq.{length-take-le}
use Rattle.rig_cycle_sheet.proofs.next_bodies.Goals as goal

pub slice_bounds-amounts-end : goal.slice_bounds-amounts-end
slice_bounds-amounts-end c = c.state_count-n.ensures.1

pub slice_bounds-next_cells-end : goal.slice_bounds-next_cells-end
slice_bounds-next_cells-end c = sym (length-take-le _ _ c.state_count-n.ensures.1)

pub slice_bounds-residual-end : goal.slice_bounds-residual-end
slice_bounds-residual-end c = c.state_count-n.ensures.1

pub slice_bounds-next_cells-end-2 : goal.slice_bounds-next_cells-end-2
slice_bounds-next_cells-end-2 c = sym (length-take-le _ _ c.state_count-n.ensures.1)

pub next_cells-requires : goal.next_cells-requires
next_cells-requires c =
    let n = c.state_count-n.ensures in (
      length-take-le _ _ n.1 ∙ n.0,
      length-take-le _ _ n.1 ∙ n.0,
      omega (arith, c.cells-times.ensures),
      omega (arith, c.cells-sides.ensures),
      omega (arith, c.cells-values.ensures),
    )
