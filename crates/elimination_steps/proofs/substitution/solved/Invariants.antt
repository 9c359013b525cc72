-- `elimination_steps::substitution::solved` meets its contract. The invariant: the amounts from i on are solved.
use mathlib.Core.Path.{◌≡◌}
use Prim.Native.Nat.{◌-◌}
use lib.ListN.{take}
use Rattle.cycle.specs.Elimination.{solve_to}
use Rattle.elimination_system.specs.Systems.{held}
use Rattle.elimination_steps.proofs.substitution.solved.Given as goal

abbrev pub invariant-loop-i : goal.invariant-loop-i
invariant-loop-i l = let s = l.system in take s.n l.x ≡ solve_to s.n (held s.n s.matrix s.right) (s.n - l.i)
