-- `periodic_candidate::solution` meets its contract.
use mathlib.Core.Path.{ap, ◌∙◌}
use lib.Ieee.{of_bits}
use Rattle.std.proofs.lemmas.List.{take-replicate}
use Rattle.std.proofs.lemmas.Result.{err_from_is_err_and}
use Rattle.limits.specs.Limits.{states}
use Rattle.binary64.specs.Doubles.{plus_zero}
use Rattle.simulation.specs.KernelRun.{propagator_of}
use Rattle.cycle.specs.Closed.{untimed}
use Rattle.periodic_runs.proofs.ZeroedRuns.{zeroed_runs}
use Rattle.periodic_candidate.proofs.Chain.{solution-stops, columns-stop, solution-solves}
use Rattle.periodic_candidate.proofs.solution.Goals as goal

pub returns-in_err-offset : goal.returns-in_err-offset
unfolding of_bits
returns-in_err-offset c =
    let s = c.args.cycle.now in
    let p = err_from_is_err_and c.from_residual.result c.from_residual.ensures.1 in
    rw (p.1, p.2)
    (solution-stops (propagator_of s.kernel) s.n s.window s.events.now
    (rw (take-replicate s.n states plus_zero s.runs.states) at c.in_err-offset.ensures))

pub columns-requires : goal.columns-requires
columns-requires c =
    let s = c.args.cycle.now in
    zeroed_runs s.kernel s.n s.window s.events.now s.runs

pub returns-in_err-columns : goal.returns-in_err-columns
unfolding of_bits
returns-in_err-columns c =
    let s = c.args.cycle.now in
    let p = err_from_is_err_and c.from_residual-in_err-columns.result c.from_residual-in_err-columns.ensures.1 in
    rw (p.1, p.2)
    (columns-stop (propagator_of s.kernel) s.n s.window s.events.now
    (rw (take-replicate s.n states plus_zero s.runs.states) at c.in_ok-offset.ensures)
    c.in_err-columns.ensures)

pub returns-in_err-eliminated : goal.returns-in_err-eliminated
unfolding of_bits
returns-in_err-eliminated c =
    let s = c.args.cycle.now in
    let p = err_from_is_err_and c.from_residual-in_err-eliminated.result c.from_residual-in_err-eliminated.ensures.1 in
    rw (p.1, p.2)
    (ap untimed c.in_err-eliminated.ensures
    ∙ solution-solves (propagator_of s.kernel) s.n s.window s.events.now
    (rw (take-replicate s.n states plus_zero s.runs.states) at c.in_ok-offset.ensures)
    c.in_ok-columns.ensures)

pub returns : goal.returns
unfolding of_bits
returns c =
    let s = c.args.cycle.now in
    ap untimed c.in_ok-eliminated.ensures
    ∙ solution-solves (propagator_of s.kernel) s.n s.window s.events.now
    (rw (take-replicate s.n states plus_zero s.runs.states) at c.in_ok-offset.ensures)
    c.in_ok-columns.ensures
