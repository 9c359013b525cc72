-- `capi_kernel_cells::cells_from` meets its contract.
use borrow.Author.Rules.{rules}
use Rattle.matrix.proofs.Made.{made}
use Rattle.capi_kernel_cells.proofs.cells_from.Goals as goal

pub returns : goal.returns
returns g c = made _ (λ k y q l e. search rules) c.from_fn.ensures.items
