-- `binary64::is_finite` meets its contract: the library's test is the definition's. Assumes nothing.
use mathlib.Core.Path.{◌∙◌}
use Rattle.binary64.proofs.Magnitudes.{finite_same}
use Rattle.binary64.proofs.is_finite.Goals as goal

pub returns : goal.returns
returns c = c.is_finite.ensures.value ∙ finite_same c.args.x
