-- `linear_pk_values::values_pass` meets its contract.
use lib.Ieee.{of_bits}
use Rattle.linear_pk_values.specs.Parameters.{parameters_pass}
use Rattle.linear_pk_values.proofs.values_pass.Goals as goal

pub returns : goal.returns
unfolding parameters_pass of_bits
returns c =
    rw (
      c.is_nonnegative.ensures,
      c.all_positive.ensures,
      c.all_nonnegative.ensures,
      c.is_nonnegative-2.ensures,
      c.unwrap_or.ensures,
    )
