-- `elimination_system::pivot::passes` meets its contract.
use Rattle.cycle.specs.Elimination.{pivot_passes}
use Rattle.elimination_system.proofs.pivot.passes.Goals as goal

pub returns : goal.returns
unfolding pivot_passes
returns c = rw (c.is_finite.ensures, c.abs.ensures)
