-- `printout_cycle::scaled` meets its contract.
use Rattle.cycle.specs.Closed.{scaled_of}
use Rattle.printout_cycle.proofs.scaled.Goals as goal

pub returns : goal.returns
unfolding scaled_of
returns c = rw (c.abs.ensures, c.scale.ensures)
