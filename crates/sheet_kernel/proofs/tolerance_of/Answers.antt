-- `sheet_kernel::tolerance_of` meets its contract.
use Rattle.sheet_kernel.specs.CycleTolerance.{tolerance_of}
use Rattle.sheet_kernel.proofs.tolerance_of.Goals as goal

pub returns : goal.returns
unfolding tolerance_of
returns c = cc
