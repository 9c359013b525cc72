-- `linear_pk::kernel::kernel_of` meets its contract.
use lib.Ieee.{of_bits}
use Rattle.linear_pk.specs.LinearPk.{kernel_of}
use Rattle.linear_pk.proofs.kernel.kernel_of.Goals as goal

pub returns : goal.returns
unfolding kernel_of of_bits
returns c = rw (c.matrix-matrix.ensures, c.padded-list.ensures, c.is_some.ensures)
