use mathlib.Core.Path.{ap, refl, sym, ◌∙◌}
use mathlib.Core.Bool.{not, ◌&&◌}
-- `linear_pk::kernel::LinearPk::advance` meets its contract.
use lib.ListN.{length}
use borrow.Author.Tests.{not-true, not-false, lt-leb, le-leb}
use Rattle.matrix.specs.Exponential.{scheme}
use Rattle.linear_pk.proofs.Counted.{and_first, and_second, amounts-count}
use Rattle.std.proofs.lemmas.Result.{err_from_is_err_and}
use Rattle.linear_pk.proofs.Cases.{advance_unsound, advance-sound}
use Rattle.linear_pk.proofs.kernel.LinearPk.advance.Goals as goal

pub returns-then-not-amounts_pass-is_nonnegative : goal.returns-then-not-amounts_pass-is_nonnegative
returns-then-not-amounts_pass-is_nonnegative c =
    rw (
      advance-sound scheme c.args.self c.args.amounts.now c.args.rates.now c.args.duration
          (length c.args.res.now) {b = c.amounts_pass.result
          && (c.amounts_pass-2.result && c.is_nonnegative.result)} (sym
          (rw c.in_ok-check.was at c.check.ensures)) (rw (
            c.amounts_pass.ensures,
            c.amounts_pass-2.ensures,
            c.is_nonnegative.ensures,
            c.state_count-n.ensures.0,
          )),
      not-true (c.amounts_pass.result && (c.amounts_pass-2.result
          && c.is_nonnegative.result)) (ap not c.if-not-amounts_pass-is_nonnegative.true),
    ) (record {
      result_value = refl;
      res_after = refl;
    })

pub returns-then-res-n : goal.returns-then-res-n
returns-then-res-n c =
    rw (
      advance-sound scheme c.args.self c.args.amounts.now c.args.rates.now c.args.duration
          (length c.args.res.now) {b = c.amounts_pass.result
          && (c.amounts_pass-2.result && c.is_nonnegative.result)} (sym
          (rw c.in_ok-check.was at c.check.ensures)) (rw (
            c.amounts_pass.ensures,
            c.amounts_pass-2.ensures,
            c.is_nonnegative.ensures,
            c.state_count-n.ensures.0,
          )),
      not-false (c.amounts_pass.result && (c.amounts_pass-2.result
          && c.is_nonnegative.result)) (ap not c.if-not-amounts_pass-is_nonnegative.false),
      ← c.state_count-n.ensures.0,
      lt-leb _ _ c.if-res-n.true,
    ) (record {
      result_value = refl;
      res_after = refl;
    })

pub interval-requires : goal.interval-requires
interval-requires c =
    let h = not-false (c.amounts_pass.result
    && (c.amounts_pass-2.result && c.is_nonnegative.result)) (ap not c.if-not-amounts_pass-is_nonnegative.false) in
    let n = amounts-count _ c.args.amounts.now (sym c.amounts_pass.ensures ∙ and_first c.amounts_pass.result _ h) in
    let m = amounts-count _ c.args.rates.now (sym c.amounts_pass-2.ensures
    ∙ and_first c.amounts_pass-2.result _ (and_second c.amounts_pass.result _ h)) in
    (rw n c.state_count-n.ensures.1, m ∙ sym n, rw n c.if-res-n.false)

pub returns-in_err-check : goal.returns-in_err-check
returns-in_err-check c =
    let p = err_from_is_err_and c.from_residual.result c.from_residual.ensures.1 in
    rw (advance_unsound scheme _ _ _ _ _ (sym c.in_err-check.ensures), p.1, p.2) (record {
      result_value = refl;
      res_after = refl;
    })

pub returns : goal.returns
returns c =
    let h = not-false (c.amounts_pass.result
    && (c.amounts_pass-2.result && c.is_nonnegative.result)) (ap not c.if-not-amounts_pass-is_nonnegative.false) in
    let n = amounts-count _ c.args.amounts.now (sym c.amounts_pass.ensures ∙ and_first c.amounts_pass.result _ h) in
    rw (
      advance-sound scheme c.args.self c.args.amounts.now c.args.rates.now c.args.duration
          (length c.args.res.now) {b = c.amounts_pass.result
          && (c.amounts_pass-2.result && c.is_nonnegative.result)} (sym
          (rw c.in_ok-check.was at c.check.ensures)) (rw (
            c.amounts_pass.ensures,
            c.amounts_pass-2.ensures,
            c.is_nonnegative.ensures,
            c.state_count-n.ensures.0,
          )),
      h,
      ← c.state_count-n.ensures.0,
      le-leb _ _ c.if-res-n.false,
    ) (record {
      result_value = rw n at c.interval.ensures.result_value;
      res_after = rw n at c.interval.ensures.res_after;
    })
