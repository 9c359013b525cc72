-- `capi_kernel_cells::bound_cells` meets its contract.
use borrow.Author.Rules.{rules}
use Rattle.limits.specs.Limits.{bound_cells}
use Rattle.matrix.proofs.Made.{made}
use Rattle.capi_kernel_cells.proofs.bound_cells.Goals as goal

pub returns : goal.returns
returns c = made bound_cells (λ k y q l e. search rules) c.from_fn.ensures.items
