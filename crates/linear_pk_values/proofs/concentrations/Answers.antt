-- `linear_pk_values::concentrations` meets its contract.
use mathlib.Core.Path.{refl, sym, ap, ◌∙◌}
use Prim.Native.Nat.{◌+◌}
use native.Mathlib.Omega.{arith}
use lib.ListN.{length}
use borrow.Author.Tests.{lt-leb, le-leb}
use Rattle.linear_pk_mammillary.specs.Rates.{central}
use Rattle.matrix.proofs.Filled.{tabulate-length}
use Rattle.linear_pk_values.proofs.Counts.{amounts-count}
use Rattle.linear_pk_values.proofs.Cases.{concentrations-are}
use Rattle.linear_pk_values.proofs.concentrations.Goals as goal

pub returns-then-not-amounts_pass : goal.returns-then-not-amounts_pass
returns-then-not-amounts_pass c =
    record {
      result_value = rw (
        concentrations-are (length c.args.volumes.now + central c.args.depot) (length c.args.volumes.now) c.args.depot c.args.volumes.now
            c.args.amounts.now (length c.args.res.now) {b = c.amounts_pass.result} (rw c.central.ensures.0 at c.amounts_pass.ensures) refl refl,
        c.if-not-amounts_pass.true,
      ) refl;
      res_after = rw (
        concentrations-are (length c.args.volumes.now + central c.args.depot) (length c.args.volumes.now) c.args.depot c.args.volumes.now
            c.args.amounts.now (length c.args.res.now) {b = c.amounts_pass.result} (rw c.central.ensures.0 at c.amounts_pass.ensures) refl refl,
        c.if-not-amounts_pass.true,
      ) refl;
    }

pub returns-then-res-count : goal.returns-then-res-count
returns-then-res-count c =
    record {
      result_value = rw (
        concentrations-are (length c.args.volumes.now + central c.args.depot) (length c.args.volumes.now) c.args.depot c.args.volumes.now
            c.args.amounts.now (length c.args.res.now) {b = c.amounts_pass.result}
            (rw c.central.ensures.0 at c.amounts_pass.ensures) refl refl,
        c.if-not-amounts_pass.false,
        lt-leb _ _ c.if-res-count.true,
      ) refl;
      res_after = rw (
        concentrations-are (length c.args.volumes.now + central c.args.depot) (length c.args.volumes.now) c.args.depot c.args.volumes.now
            c.args.amounts.now (length c.args.res.now) {b = c.amounts_pass.result}
            (rw c.central.ensures.0 at c.amounts_pass.ensures) refl refl,
        c.if-not-amounts_pass.false,
        lt-leb _ _ c.if-res-count.true,
      ) refl;
    }

pub concentration_list-list-requires : goal.concentration_list-list-requires
concentration_list-list-requires c = (
  c.requires,
  omega (
    arith,
    amounts-count _ c.args.amounts.now (sym (rw c.central.ensures.0 at c.amounts_pass.ensures)
        ∙ c.if-not-amounts_pass.false),
  ),
)

pub slice_bounds-list-end : goal.slice_bounds-list-end
slice_bounds-list-end c = omega (arith, c.requires)

pub returns-then-not-all_finite : goal.returns-then-not-all_finite
returns-then-not-all_finite c =
    record {
      result_value = rw (
        concentrations-are (length c.args.volumes.now + central c.args.depot) (length c.args.volumes.now) c.args.depot c.args.volumes.now
            c.args.amounts.now (length c.args.res.now) {b = c.amounts_pass.result} (rw c.central.ensures.0 at c.amounts_pass.ensures)
            c.concentration_list-list.ensures c.all_finite.ensures,
        c.if-not-amounts_pass.false,
        le-leb _ _ c.if-res-count.false,
        c.if-not-all_finite.true,
      ) refl;
      res_after = rw (
        concentrations-are (length c.args.volumes.now + central c.args.depot) (length c.args.volumes.now) c.args.depot c.args.volumes.now
            c.args.amounts.now (length c.args.res.now) {b = c.amounts_pass.result} (rw c.central.ensures.0 at c.amounts_pass.ensures)
            c.concentration_list-list.ensures c.all_finite.ensures,
        c.if-not-amounts_pass.false,
        le-leb _ _ c.if-res-count.false,
        c.if-not-all_finite.true,
      ) refl;
    }

pub lay-requires : goal.lay-requires
lay-requires c = omega (arith, ap length c.concentration_list-list.ensures ∙ tabulate-length _ _)

pub returns : goal.returns
returns c =
    record {
      result_value = rw (
        concentrations-are (length c.args.volumes.now + central c.args.depot) (length c.args.volumes.now) c.args.depot c.args.volumes.now
            c.args.amounts.now (length c.args.res.now) {b = c.amounts_pass.result} (rw c.central.ensures.0 at c.amounts_pass.ensures)
            c.concentration_list-list.ensures c.all_finite.ensures,
        c.if-not-amounts_pass.false,
        le-leb _ _ c.if-res-count.false,
        c.if-not-all_finite.false,
      ) refl;
      res_after = rw (
        concentrations-are (length c.args.volumes.now + central c.args.depot) (length c.args.volumes.now) c.args.depot c.args.volumes.now
            c.args.amounts.now (length c.args.res.now) {b = c.amounts_pass.result} (rw c.central.ensures.0 at c.amounts_pass.ensures)
            c.concentration_list-list.ensures c.all_finite.ensures,
        c.if-not-amounts_pass.false,
        le-leb _ _ c.if-res-count.false,
        c.if-not-all_finite.false,
      ) c.lay.ensures;
    }

pub slice_bounds-values-end : goal.slice_bounds-values-end
slice_bounds-values-end c = sym (ap length c.concentration_list-list.ensures ∙ tabulate-length _ _)
