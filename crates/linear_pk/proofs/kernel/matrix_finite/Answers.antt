-- `linear_pk::kernel::matrix_finite` meets its contract.
use Rattle.linear_pk.specs.LinearPk.{matrix_finite}
use Rattle.linear_pk.proofs.kernel.matrix_finite.Goals as goal

pub matrix_finite-requires : goal.matrix_finite-requires
unfolding matrix_finite
matrix_finite-requires c = c.state_count.ensures.1

pub returns : goal.returns
unfolding matrix_finite
returns c = rw (c.matrix_finite.ensures, c.state_count.ensures.0)
