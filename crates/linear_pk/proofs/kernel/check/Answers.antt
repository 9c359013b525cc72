-- `linear_pk::kernel::check` meets its contract.
use Rattle.linear_pk.proofs.kernel.check.Goals as goal

pub returns-then-not-matrix_finite : goal.returns-then-not-matrix_finite
returns-then-not-matrix_finite c =
    rw (
      ← c.volumes_pass.ensures,
      c.if-not-volumes_pass.false,
      ← c.matrix_finite.ensures,
      c.if-not-matrix_finite.true,
    )

pub returns : goal.returns
returns c =
    rw (
      ← c.volumes_pass.ensures,
      c.if-not-volumes_pass.false,
      ← c.matrix_finite.ensures,
      c.if-not-matrix_finite.false,
    )

pub returns-then-not-volumes_pass : goal.returns-then-not-volumes_pass
returns-then-not-volumes_pass c = rw (← c.volumes_pass.ensures, c.if-not-volumes_pass.true)
