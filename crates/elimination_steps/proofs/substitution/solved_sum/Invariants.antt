-- `elimination_steps::substitution::solved_sum` meets its contract. The invariant: the sum of the first products.
use mathlib.Core.Path.{◌≡◌}
use lib.ListN.{length}
use Rattle.cycle.specs.Elimination.{solved_sum}
use Rattle.elimination_steps.proofs.substitution.solved_sum.Given as goal

abbrev pub invariant-loop-entry : goal.invariant-loop-entry
invariant-loop-entry l = l.sum ≡ solved_sum l.system.matrix l.x l.i (length l.yielded)
