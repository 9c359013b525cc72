-- `sheet_kernel::kernel_from` meets its contract.
use Rattle.sheet_kernel.specs.Values.{model_of}
use Rattle.sheet_kernel.proofs.kernel_from.Goals as goal

pub returns : goal.returns
unfolding model_of
returns c =
    rw (
      c.double.ensures,
      c.doubles.ensures,
      c.doubles-2.ensures,
      c.absorption_of.ensures,
      c.requires.0,
      c.requires.1,
    ) at c.new.ensures
