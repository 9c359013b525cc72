-- `linear_pk_interval::apply` meets its contract.
use mathlib.Core.Path.{refl, sym, ap, ◌∙◌}
use native.Mathlib.Omega.{arith}
use lib.ListN.{length}
use Rattle.matrix.proofs.Filled.{tabulate-length}
use Rattle.linear_pk_interval.proofs.Cases.{applied-at}
use Rattle.linear_pk_interval.proofs.apply.Goals as goal

pub returns-then-not-inputs_finite : goal.returns-then-not-inputs_finite
returns-then-not-inputs_finite c =
    record {
      result_value = rw (applied-at _ _ _ _ _ c.requires.1 c.inputs_finite.ensures refl refl, c.if-not-inputs_finite.true) refl;
      res_after = rw (applied-at _ _ _ _ _ c.requires.1 c.inputs_finite.ensures refl refl, c.if-not-inputs_finite.true) refl;
    }

pub returns-then-not-all_nonnegative : goal.returns-then-not-all_nonnegative
returns-then-not-all_nonnegative c =
    record {
      result_value = rw (
        applied-at _ _ _ _ _ c.requires.1 c.inputs_finite.ensures c.amounts_after-list.ensures
            c.all_nonnegative.ensures,
        c.if-not-inputs_finite.false,
        c.if-not-all_nonnegative.true,
      ) refl;
      res_after = rw (
        applied-at _ _ _ _ _ c.requires.1 c.inputs_finite.ensures c.amounts_after-list.ensures
            c.all_nonnegative.ensures,
        c.if-not-inputs_finite.false,
        c.if-not-all_nonnegative.true,
      ) refl;
    }

pub lay-requires : goal.lay-requires
lay-requires c = omega (arith, ap length c.amounts_after-list.ensures ∙ tabulate-length _ _)

pub returns : goal.returns
returns c =
    record {
      result_value = rw (
        applied-at _ _ _ _ _ c.requires.1 c.inputs_finite.ensures c.amounts_after-list.ensures
            c.all_nonnegative.ensures,
        c.if-not-inputs_finite.false,
        c.if-not-all_nonnegative.false,
      ) refl;
      res_after = rw (
        applied-at _ _ _ _ _ c.requires.1 c.inputs_finite.ensures c.amounts_after-list.ensures
            c.all_nonnegative.ensures,
        c.if-not-inputs_finite.false,
        c.if-not-all_nonnegative.false,
      ) c.lay.ensures;
    }

pub slice_bounds-after-end : goal.slice_bounds-after-end
slice_bounds-after-end c = sym (ap length c.amounts_after-list.ensures ∙ tabulate-length _ _)
