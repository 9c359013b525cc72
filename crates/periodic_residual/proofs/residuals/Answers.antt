-- `periodic_residual::residuals` meets its contract.
use mathlib.Core.Path.{◌≡◌, ap₂, sym}
use borrow.Author.Rules.{rules}
use lib.Seq.{get_or-take}
use lib.Ieee.{nan, binary64, sub}
use Rattle.limits.specs.Limits.{states}
use Rattle.matrix.specs.Matrix.{cell, tabulate}
use Rattle.matrix.proofs.Made.{made}
use Rattle.matrix.proofs.Filled.{tabulate-front}
use Rattle.cycle.specs.Closed.{residuals_of}
use Rattle.periodic_residual.proofs.residuals.Goals as goal

pub returns : goal.returns
unfolding residuals_of
returns c n h =
    let g = c.args in
    let whole : c.from_fn.result ≡ tabulate states (λ k. sub binary64 (cell g.end k) (cell g.start k)) = made states (λ k y q l e. search rules) c.from_fn.ensures.items in
    tabulate-front _ _ states n h whole (λ k l. ap₂ (sub binary64) (sym (get_or-take n g.end k nan l)) (sym (get_or-take n g.start k nan l)))
