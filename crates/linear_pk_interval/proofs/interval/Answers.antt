-- `linear_pk_interval::interval` meets its contract.
use mathlib.Core.Path.{refl, sym}
use lib.Ieee.{of_bits}
use Rattle.std.proofs.lemmas.Result.{err_from_is_err_and}
use Rattle.matrix.specs.Exponential.{scheme}
use Rattle.linear_pk_interval.proofs.Cases.{interval_none, interval-refused, interval_applied}
use Rattle.linear_pk_interval.proofs.interval.Goals as goal

pub returns-then-duration : goal.returns-then-duration
unfolding of_bits
returns-then-duration c =
    record {
      result_value = rw (interval_none scheme _ _ _ _ _ c.if-duration.true) refl;
      res_after = rw (interval_none scheme _ _ _ _ _ c.if-duration.true) c.lay.ensures;
    }

pub returns-in_err-made : goal.returns-in_err-made
unfolding of_bits
returns-in_err-made c =
    let p = err_from_is_err_and c.from_residual.result c.from_residual.ensures.1 in
    record {
      result_value = rw (p.1, p.2, interval-refused scheme _ _ _ _ _ c.if-duration.false (sym c.in_err-made.ensures)) refl;
      res_after = rw (interval-refused scheme _ _ _ _ _ c.if-duration.false (sym c.in_err-made.ensures)) refl;
    }

pub returns : goal.returns
unfolding of_bits
returns c =
    record {
      result_value = rw (interval_applied scheme _ _ _ _ _ c.if-duration.false (sym c.in_ok-made.ensures)) c.apply.ensures.result_value;
      res_after = rw (interval_applied scheme _ _ _ _ _ c.if-duration.false (sym c.in_ok-made.ensures)) c.apply.ensures.res_after;
    }
