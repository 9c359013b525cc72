-- `rows::Leg::arrive` meets its contract.
use native.Mathlib.Omega.{arith}
use lib.ListN.{take}
use Rattle.rows.proofs.Steps.{arrive-spent, arrive-refused, arrive-done}
use Rattle.rows.proofs.Leg.arrive.Goals as goal

pub returns-then-start-eq0 : goal.returns-then-start-eq0
returns-then-start-eq0 c =
    let g = c.args in
    λ d. rw (c.stopped_by.ensures, c.past_advance-next.ensures)
    (arrive-spent g.start d g.self.now.t (take g.self.now.n g.self.now.rates) g.u c.if-start-eq0.true)

pub returns-in-Err : goal.returns-in-Err
returns-in-Err c =
    let g = c.args in
    λ d. rw (c.stopped_by-in-Err.ensures, c.past_advance-next.ensures)
    (arrive-refused g.start d g.self.now.t (take g.self.now.n g.self.now.rates) g.u (omega (arith, c.if-start-eq0.false)) c.propagate.ensures _ c.in-Err.is)

pub returns-in-Ok : goal.returns-in-Ok
returns-in-Ok c =
    let g = c.args in
    λ d. rw (c.with_amounts.ensures, c.past_advance-next.ensures)
    (arrive-done g.start d g.self.now.t (take g.self.now.n g.self.now.rates) g.u (omega (arith, c.if-start-eq0.false)) c.propagate.ensures _ c.in-Ok.is)
