-- `elimination::solve` meets its contract. The invariant: the first k columns of elimination give the system that is held.
use mathlib.Core.Path.{◌≡◌}
use Rattle.refusal.specs.Result.{done}
use Rattle.cycle.specs.Elimination.{eliminate_to}
use Rattle.elimination_system.specs.Systems.{held}
use Rattle.elimination.proofs.solve.Given as goal

-- A system that is written field by field stands as (n, (matrix, (right, tt))).
abbrev pub invariant-loop-k : goal.invariant-loop-k
invariant-loop-k l =
    let s = l.system in
    let t = l.initial.system in
    (s.0 ≡ l.n) × (eliminate_to l.n l.least (held l.n t.1.0 t.1.1.0) l.k ≡ done (held l.n s.1.0 s.1.1.0))
