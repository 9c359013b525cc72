-- `periodic_residual::maximum` meets its contract. The invariant: the greatest of the states so far is at hand.
use mathlib.Core.Path.{◌≡◌}
use lib.ListN.{length, take}
use Rattle.cycle.specs.Closed.{got, checked_maximum_to}
use Rattle.periodic_residual.proofs.maximum.Given as goal

abbrev pub invariant-loop-from : goal.invariant-loop-from
invariant-loop-from l = checked_maximum_to l.tolerance (take l.n l.fn.start) (take l.n l.fn.end) (length l.yielded) ≡ got l.maximum
