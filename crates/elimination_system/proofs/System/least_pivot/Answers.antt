-- `elimination_system::System::least_pivot` meets its contract.
use native.Mathlib.Omega.{arith}
use lib.Ieee.{of_bits}
use Rattle.cycle.specs.Elimination.{least_pivot}
use Rattle.matrix.proofs.Cases.{norm_lead}
use Rattle.elimination_system.proofs.System.least_pivot.Goals as goal

pub returns : goal.returns
unfolding least_pivot of_bits
returns c =
    let s = c.args.self.now in
    rw (c.max.ensures, c.norm.ensures, norm_lead s.n s.matrix s.n (omega arith))
