-- `linear_pk::kernel::LinearPk::bind` meets its contract.
use mathlib.Core.Path.{sym}
use Rattle.std.proofs.lemmas.Result.{err_from_is_err_and}
use Rattle.linear_pk.proofs.Cases.{bind_unsound, bind-sound}
use Rattle.linear_pk.proofs.kernel.LinearPk.bind.Goals as goal

pub returns-in_err-check : goal.returns-in_err-check
returns-in_err-check c =
    let p = err_from_is_err_and c.from_residual.result c.from_residual.ensures.1 in
    rw (p.1, p.2) (sym (bind_unsound _ _ (sym c.in_err-check.ensures)))

pub returns-then-not-amounts_pass : goal.returns-then-not-amounts_pass
returns-then-not-amounts_pass c =
    rw (
      bind-sound c.args.self c.args.initial.now {b = c.amounts_pass.result}
          (sym (rw c.in_ok-check.was at c.check.ensures)) (rw (c.amounts_pass.ensures, c.state_count.ensures.0)),
      c.if-not-amounts_pass.true,
    )

pub returns : goal.returns
returns c =
    rw (
      bind-sound c.args.self c.args.initial.now {b = c.amounts_pass.result}
          (sym (rw c.in_ok-check.was at c.check.ensures)) (rw (c.amounts_pass.ensures, c.state_count.ensures.0)),
      c.if-not-amounts_pass.false,
      c.padded-list.ensures,
    )
