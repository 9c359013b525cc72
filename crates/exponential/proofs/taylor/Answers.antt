-- `exponential::taylor` meets its contract.
use Rattle.matrix.specs.Exponential.{taylor}
use Rattle.exponential.proofs.taylor.Goals as goal

pub returns : goal.returns
unfolding taylor
returns c = rw (← c.halved.ensures.part, ← c.series.ensures.part) c.squared.ensures
