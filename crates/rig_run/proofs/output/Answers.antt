-- The number of the most rows has three digits.
use Rattle.std.proofs.Common.{rules}
use Rattle.printout.specs.Printout.{places}
use Rattle.rig_run.proofs.output.Goals as goal

pub returns : goal.returns
unfolding places
returns c = search rules
