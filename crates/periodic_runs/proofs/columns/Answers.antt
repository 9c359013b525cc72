-- `periodic_runs::columns` meets its contract.
use mathlib.Core.Path.{refl}
use native.Mathlib.Omega.{arith}
use Prim.Native.Nat.{◌<◌}
use lib.ListN.{length-set}
use lib.Seq.{length-take-le}
use Rattle.std.proofs.lemmas.Result.{err_from_is_err_and}
use Rattle.simulation.specs.KernelRun.{propagator_of}
use Rattle.matrix.specs.Matrix.{tabulate, tabulate_from}
use Rattle.cycle.specs.Closed.{columns_to}
use Rattle.cycle.proofs.Folds.{zeroed-length}
use Rattle.periodic_runs.proofs.UnitRuns.{unit_front, below_front, past_front, columns-front, columns_more, columns-stop, columns-all}
use Rattle.periodic_runs.proofs.columns.Goals as goal

pub homogeneous-requires : goal.homogeneous-requires
homogeneous-requires c = rw zeroed-length at c.requires.few

pub loop-j-init : goal.loop-j-init
unfolding columns_to tabulate tabulate_from
loop-j-init c = (length-take-le _ _ c.requires.states, omega arith, refl)

pub invariant_of-unit_runs : goal.invariant_of-unit_runs
invariant_of-unit_runs c = record { runs = rw (c.deref.ensures.0, c.homogeneous.ensures) c.requires }

pub returns-in_err-column : goal.returns-in_err-column
returns-in_err-column c =
    let g = c.args in
    let l : c.loop-j.j < g.n = below_front g.n _ _ c.requires.states c.loop-j-test.true in
    let p = err_from_is_err_and c.from_residual.result c.from_residual.ensures.1 in
    rw (p.1, p.2)
    (columns-stop (propagator_of g.kernel) g.n g.window g.events.now c.loop-j.column-items c.loop-j.j c.loop-j.invariant.2 l
    (rw (
      c.deref.ensures.0,
      c.homogeneous.ensures,
      c.unit.ensures,
      unit_front g.n c.loop-j.j c.requires.states l,
    ) at c.in_err-column.ensures))

pub loop-j-preserved : goal.loop-j-preserved
loop-j-preserved c =
    let g = c.args in
    let l : c.loop-j.j < g.n = below_front g.n _ _ c.requires.states c.loop-j-test.true in (
      simp length-set c.loop-j.invariant.0,
      omega arith,
      columns_more (propagator_of g.kernel) g.n g.window g.events.now c.loop-j.column-items c.loop-j.j c.loop-j.invariant.2
          c.in_ok-column.field-0 (omega (arith, l, c.loop-j.invariant.0))
          (rw (
            c.deref.ensures.0,
            c.homogeneous.ensures,
            c.unit.ensures,
            unit_front g.n c.loop-j.j c.requires.states l,
          ) at c.in_ok-column.ensures),
    )

pub returns : goal.returns
returns c =
    let g = c.args in
    let cs = c.loop-j.column-items in
    rw (columns-front g.n cs _ (omega (arith, c.loop-j.invariant.0)))
    (columns-all (propagator_of g.kernel) g.n g.window g.events.now cs c.loop-j.j c.loop-j.invariant.2 c.loop-j.invariant.1 (past_front g.n _ _ c.requires.states c.loop-j-test.false))
