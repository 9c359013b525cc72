-- `elimination_system::entries::factor` meets its contract.
use Rattle.cycle.specs.Elimination.{factor}
use Rattle.elimination_system.proofs.entries.factor.Goals as goal

pub returns : goal.returns
unfolding factor
returns c = rw (c.at.ensures, c.at-2.ensures)
