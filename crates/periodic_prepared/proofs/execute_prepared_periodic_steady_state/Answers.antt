-- `periodic_prepared::execute_prepared_periodic_steady_state` meets its contract.
use mathlib.Core.Path.{◌≡◌}
use mathlib.Core.Bool.{true, ◌&&◌}
use borrow.Author.Rules.{rules}
use borrow.Author.Tests.{lt-leb, le-leb}
use lib.Dec.{leb}
use lib.ListN.{length, take}
use Rattle.std.proofs.lemmas.Result.{err_from_is_err_and}
use Rattle.simulation.specs.KernelRun.{propagator_of}
use Rattle.periodic_acceptance.proofs.Answered.{refuses, solves, room-stops, candidate_none, candidate_some}
use Rattle.periodic_prepared.proofs.execute_prepared_periodic_steady_state.Goals as goal

pub returns-then-amounts-n : goal.returns-then-amounts-n
returns-then-amounts-n c =
    let g = c.args in
    let s = g.cycle.now in
    refuses c.from.result g.amounts.now g.residual.now
    (rw c.from.ensures
    (room-stops (propagator_of s.kernel) s.n s.window g.tolerance s.events.now
    {room = leb s.n (length g.amounts.now) && leb s.n (length g.residual.now)}
    (rw (lt-leb s.n (length g.amounts.now) c.if-amounts-n.true))))

pub returns-then-residual-n : goal.returns-then-residual-n
returns-then-residual-n c =
    let g = c.args in
    let s = g.cycle.now in
    refuses c.from-then-residual-n.result g.amounts.now g.residual.now
    (rw c.from-then-residual-n.ensures
    (room-stops (propagator_of s.kernel) s.n s.window g.tolerance s.events.now
    {room = leb s.n (length g.amounts.now) && leb s.n (length g.residual.now)}
    (rw (le-leb s.n (length g.amounts.now) c.if-amounts-n.false, lt-leb s.n (length g.residual.now) c.if-residual-n.true))))

pub returns-in_err-candidate : goal.returns-in_err-candidate
returns-in_err-candidate c =
    let g = c.args in
    let s = g.cycle.now in
    let p = err_from_is_err_and c.from_residual.result c.from_residual.ensures.1 in
    let room : leb s.n (length g.amounts.now) && leb s.n (length g.residual.now)
    ≡ true = rw (
      le-leb s.n (length g.amounts.now) c.if-amounts-n.false,
      le-leb s.n (length g.residual.now) c.if-residual-n.false,
    ) in
    rw (p.1, p.2)
    (refuses _ g.amounts.now g.residual.now
    (candidate_none (propagator_of s.kernel) s.n s.window g.tolerance s.events.now room c.in_err-candidate.ensures))

pub returns-in_err-acceptance : goal.returns-in_err-acceptance
returns-in_err-acceptance c =
    let g = c.args in
    let s = g.cycle.now in
    let p = err_from_is_err_and c.from_residual-in_err-acceptance.result c.from_residual-in_err-acceptance.ensures.1 in
    let room : leb s.n (length g.amounts.now) && leb s.n (length g.residual.now)
    ≡ true = rw (
      le-leb s.n (length g.amounts.now) c.if-amounts-n.false,
      le-leb s.n (length g.residual.now) c.if-residual-n.false,
    ) in
    rw (p.1, p.2)
    (refuses _ g.amounts.now g.residual.now
    (candidate_some (propagator_of s.kernel) s.n s.window g.tolerance s.events.now room
    c.in_ok-candidate.ensures c.in_err-acceptance.ensures))

pub returns : goal.returns
returns c =
    let g = c.args in
    let s = g.cycle.now in
    let room : leb s.n (length g.amounts.now) && leb s.n (length g.residual.now)
    ≡ true = rw (
      le-leb s.n (length g.amounts.now) c.if-amounts-n.false,
      le-leb s.n (length g.residual.now) c.if-residual-n.false,
    ) in
    let j = c.in_ok-acceptance.acceptance in
    solves (record {
      amounts = take s.n c.in_ok-candidate.candidate;
      residuals = take s.n
          j.residuals;
      maximum = j.maximum;
    }) g.amounts.now g.residual.now
    (candidate_some (propagator_of s.kernel) s.n s.window g.tolerance s.events.now room
    c.in_ok-candidate.ensures c.in_ok-acceptance.ensures)
    (search rules) (search rules)
