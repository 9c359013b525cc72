-- `preparation::prepared` meets its contract.
use Rattle.std.proofs.lemmas.Result.{err_from_is_err_and}
use Rattle.refusal.proofs.Numbers.{refusal-number}
use Rattle.preparation.proofs.Tests.{validate-fails}
use Rattle.preparation.proofs.prepared.Goals as goal

pub returns-in_err-validate : goal.returns-in_err-validate
returns-in_err-validate c =
    let p = err_from_is_err_and c.from_residual.result c.from_residual.ensures.1 in
    rw (p.1, p.2) (validate-fails _ _ _ _ c.if-events-window.false (refusal-number c.in_err-validate.field-0.0) c.in_err-validate.ensures)
