-- `printout_cycle::state_closes` meets its contract.
use lib.Ieee.{of_bits}
use Rattle.printout_cycle.specs.Closes.{state_closes}
use Rattle.printout_cycle.proofs.state_closes.Goals as goal

pub returns : goal.returns
unfolding state_closes of_bits
returns c = rw (c.is_finite.ensures, c.scale-divisor.ensures, c.scaled-ratio.ensures, c.bits.ensures, c.bits-2.ensures)
