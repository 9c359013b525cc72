-- `periodic::closed` meets its contract.
use mathlib.Core.Bool.{◌&&◌}
use lib.Dec.{leb}
use lib.ListN.{length}
use Rattle.std.proofs.lemmas.Result.{err_from_is_err_and}
use Rattle.simulation.specs.KernelRun.{propagator_of}
use Rattle.periodic_acceptance.proofs.Answered.{refuses, answers_as, folded_runs, closed-stops, closed_goes}
use Rattle.periodic.proofs.closed.Goals as goal

pub returns-in_err-prepare_periodic_steady_state : goal.returns-in_err-prepare_periodic_steady_state
returns-in_err-prepare_periodic_steady_state c =
    let g = c.args in
    let q = c.state_count-n.ensures in
    let p = err_from_is_err_and c.from_residual.result c.from_residual.ensures.1 in
    rw (p.1, p.2, ← q.0)
    (refuses _ g.amounts.now g.residual.now
    (closed-stops (propagator_of g.kernel) c.state_count-n.result g.given.now.window g.given.now.samples.now g.given.now.events.now g.tolerance
    (leb c.state_count-n.result (length g.amounts.now) && leb c.state_count-n.result (length g.residual.now)) c.in_err-prepare_periodic_steady_state.ensures.ready))

pub invariant_of-cycle : goal.invariant_of-cycle
invariant_of-cycle c =
    let g = c.args in
    let q = c.state_count-n.ensures in
    let d = c.deref.ensures in
    record { runs = rw d.0 (folded_runs g.kernel c.state_count-n.result g.given.now.window g.given.now.samples.now g.given.now.events.now g.tolerance q.0 q.1 c.in_ok-prepare_periodic_steady_state.ensures.ready (rw d.0 at d.1)) }

pub returns : goal.returns
returns c =
    let g = c.args in
    let q = c.state_count-n.ensures in
    rw (← q.0) (answers_as
    (closed_goes (propagator_of g.kernel) c.state_count-n.result g.given.now.window g.given.now.samples.now g.given.now.events.now g.tolerance
    (leb c.state_count-n.result (length g.amounts.now) && leb c.state_count-n.result (length g.residual.now)) c.in_ok-prepare_periodic_steady_state.ensures.ready)
    (rw c.deref.ensures.0 at c.execute_prepared_periodic_steady_state.ensures))
