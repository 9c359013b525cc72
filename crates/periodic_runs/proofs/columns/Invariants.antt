-- `periodic_runs::columns` meets its contract. The invariant: the first j columns are stored.
use mathlib.Core.Path.{◌≡◌}
use Prim.Native.Nat.{◌≤◌}
use lib.ListN.{length}
use Rattle.simulation.specs.KernelRun.{propagator_of}
use Rattle.cycle.specs.Closed.{got, columns_to}
use Rattle.periodic_runs.specs.Columns.{columns_of}
use Rattle.periodic_runs.proofs.columns.Given as goal

abbrev pub invariant-loop-j : goal.invariant-loop-j
invariant-loop-j l =
    (length l.column-items ≡ l.n) × (l.j ≤ l.n)
    × (columns_to (propagator_of l.fn.kernel) l.n l.fn.window l.events l.j ≡ got (columns_of l.n l.column-items l.j))
