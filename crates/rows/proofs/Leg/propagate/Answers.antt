-- `rows::Leg::propagate` meets its contract.
use native.Mathlib.Omega.{arith}
use lib.ListN.{take}
use lib.Seq.{length-take-le}
use Rattle.std.specs.Prelude.{Ok, Err}
use Rattle.std.proofs.lemmas.Result.{err_from_is_err_and}
use Rattle.rows.proofs.Kernel.{advance_moves}
use Rattle.rows.proofs.Leg.propagate.Goals as goal

pub returns : goal.returns
returns c =
    let g = c.args in
    let s = g.self.now in
    advance_moves s.kernel s.n (take s.n g.amounts) (take s.n s.rates) g.duration _ (length-take-le _ _ (omega arith))
    (length-take-le s.n g.amounts (omega arith)) (Ok tt) c.in_ok-advance.ensures.result_value _ _ _ (length-take-le _ _ (omega arith)) c.in_ok-advance.ensures.res_after

pub returns-in_err-advance : goal.returns-in_err-advance
returns-in_err-advance c =
    let g = c.args in
    let s = g.self.now in
    let p = err_from_is_err_and c.from_residual.result c.from_residual.ensures.1 in
    rw (p.1, p.2) (advance_moves s.kernel s.n (take s.n g.amounts) (take s.n s.rates) g.duration _ (length-take-le _ _ (omega arith))
    (length-take-le s.n g.amounts (omega arith)) (Err c.in_err-advance.field-0.0) c.in_err-advance.ensures.result_value _ _ c.args.amounts (length-take-le _ _ (omega arith)) c.in_err-advance.ensures.res_after)
