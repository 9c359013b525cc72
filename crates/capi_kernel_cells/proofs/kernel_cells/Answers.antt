-- `capi_kernel_cells::kernel_cells` meets its contract.
use borrow.Author.Rules.{rules}
use Rattle.limits.specs.Limits.{kernel_cells}
use Rattle.matrix.proofs.Made.{made}
use Rattle.capi_kernel_cells.proofs.kernel_cells.Goals as goal

pub returns : goal.returns
returns c = made kernel_cells (λ k y q l e. search rules) c.from_fn.ensures.items
