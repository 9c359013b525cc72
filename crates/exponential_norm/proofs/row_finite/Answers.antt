-- `exponential_norm::row_finite` meets its contract.
use native.Mathlib.Omega.{arith}
use mathlib.Core.Path.{refl, ◌∙◌}
use lib.Ieee.{nan}
use lib.Ieee.Scale.{finite}
use Rattle.matrix.specs.Matrix.{cell}
use Rattle.matrix.proofs.Fronts.{all_front}
use Rattle.exponential_norm.proofs.row_finite.Goals as goal

pub returns : goal.returns
returns g c = c.all_finite.ensures ∙ all_front finite (λ j. finite (cell c.args.row.now j)) c.args.m c.args.row.now nan (omega arith) (λ i l. refl)
