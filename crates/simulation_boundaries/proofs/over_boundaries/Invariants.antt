-- `simulation_boundaries::over_boundaries` meets its contract. The invariant: what has run so far, and what is left of the schedule.
use mathlib.Core.Path.{◌≡◌}
use lib.ListN.{length}
use Rattle.rows.specs.Lent.{cells_of, SameSlices}
use Rattle.rows.specs.Standing.{kernel_advance}
use Rattle.simulation_boundaries.proofs.Boundaries.{Going}
use Rattle.simulation_boundaries.proofs.over_boundaries.Given as goal

abbrev pub invariant-loop-t : goal.invariant-loop-t
invariant-loop-t l = Going (kernel_advance l.kernel l.n) l.n l.events l.samples l.bounds l.initial.p (cells_of l.initial.rows) l.marks l.p
    (cells_of l.rows) (length l.yielded) × (length l.marks ≡ length l.events) × SameSlices l.initial.rows l.rows
