-- `sheet_kernel::read_kernel` meets its contract.
use mathlib.Core.Path.{ap, ◌∙◌}
use Rattle.std.proofs.lemmas.Result.{err_from_is_err_and}
use Rattle.sheet_kernel.specs.Values.{model_of}
use Rattle.sheet_kernel.proofs.Placed.{read_at, inside, model_is, model_fits_lem}
use Rattle.sheet_kernel.proofs.Kernels.{unread, unmade, is_read}
use Rattle.sheet_kernel.proofs.read_kernel.Goals as goal

pub body-requires : goal.body-requires
body-requires c = (inside (read_at c.in_ok-places.ensures)).model

pub kernel_of-requires : goal.kernel_of-requires
kernel_of-requires c = model_fits_lem (read_at c.in_ok-places.ensures) c.body.ensures

pub returns-in_err-places : goal.returns-in_err-places
returns-in_err-places c =
    let p = err_from_is_err_and c.from_residual.result c.from_residual.ensures.1 in
    rw (p.1, p.2) (unread _ c.in_err-places.ensures)

pub returns-in_err-kernel : goal.returns-in_err-kernel
returns-in_err-kernel c =
    let p = err_from_is_err_and c.from_residual-in_err-kernel.result c.from_residual-in_err-kernel.ensures.1 in
    let r = read_at c.in_ok-places.ensures in
    rw (p.1, p.2) (unmade r (c.in_err-kernel.ensures ∙ ap model_of (model_is r c.body.ensures)))

pub returns : goal.returns
returns c =
    let r = read_at c.in_ok-places.ensures in
    is_read r (c.in_ok-kernel.ensures ∙ ap model_of (model_is r c.body.ensures))
