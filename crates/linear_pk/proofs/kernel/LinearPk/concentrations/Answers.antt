-- `linear_pk::kernel::LinearPk::concentrations` meets its contract.
use mathlib.Core.Path.{◌≡◌, refl, sym}
use Prim.Native.Nat.{◌≤◌}
use native.Mathlib.Omega.{arith}
use lib.ListN.{length}
use lib.Seq.{length-take-le}
use Rattle.limits.specs.Limits.{most_volumes}
use Rattle.refusal.specs.Result.{done}
use Rattle.linear_pk.specs.LinearPk.{sound}
use Rattle.linear_pk.specs.declared.kernel.LinearPk.{LinearPk}
use Rattle.linear_pk.proofs.Counted.{few_volumes, sound_counted}
use Rattle.std.proofs.lemmas.Result.{err_from_is_err_and}
use Rattle.linear_pk.proofs.Cases.{concentrations_unsound, concentrations-sound}
use Rattle.linear_pk.proofs.kernel.LinearPk.concentrations.Goals as goal

-- no more volumes in use than there are
front : (k : LinearPk) {j : LinearPk} → length k.volumes ≡ most_volumes → sound k ≡ done j → k.compartments ≤ length k.volumes
front k e h = omega (arith, few_volumes k (sound_counted k h))

pub concentrations-requires : goal.concentrations-requires
concentrations-requires c =
    let k = c.args.self in
    let s = sym (rw c.in_ok-check.was at c.check.ensures) in
    omega (arith, length-take-le k.compartments k.volumes (front k (omega arith) s), few_volumes k (sound_counted k s))

pub returns-in_err-check : goal.returns-in_err-check
returns-in_err-check c =
    let p = err_from_is_err_and c.from_residual.result c.from_residual.ensures.1 in
    rw (concentrations_unsound _ _ _ (sym c.in_err-check.ensures), p.1, p.2) (record {
      result_value = refl;
      res_after = refl;
    })

pub returns : goal.returns
returns c =
    let k = c.args.self in
    let s = sym (rw c.in_ok-check.was at c.check.ensures) in
    rw (concentrations-sound k _ _ (front k (omega arith) s) s) (record {
      result_value = c.concentrations.ensures.result_value;
      res_after = c.concentrations.ensures.res_after;
    })
