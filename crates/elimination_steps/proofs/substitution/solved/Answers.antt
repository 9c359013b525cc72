use mathlib.Core.Path.{◌≡◌}
use Prim.Native.Nat.{◌-◌}
use native.Mathlib.Omega.{arith}
use lib.Ieee.{of_bits}
use Rattle.std.proofs.lemmas.List.{take-replicate}
use Rattle.cycle.specs.Elimination.{solve_to}
use Rattle.elimination_steps.proofs.Substitutions.{solved-more}
use Rattle.elimination_steps.proofs.substitution.solved.Goals as goal

pub loop-i-init : goal.loop-i-init
unfolding solve_to of_bits
loop-i-init c =
    let none : c.args.system.now.n - c.args.system.now.n ≡ 0 = omega arith in
    rw none (take-replicate c.args.system.now.n 4 _ (omega arith))

pub loop-i-preserved : goal.loop-i-preserved
loop-i-preserved c = solved-more _ _ _ _ _ (omega arith) (omega arith) c.loop-i.invariant c.solved_sum.ensures c.at.ensures
