-- `periodic_candidate::eliminated` meets its contract.
use mathlib.Core.Path.{ap, ◌∙◌}
use lib.ListN.{take}
use Rattle.cycle.specs.Elimination.{solve}
use Rattle.periodic_candidate.proofs.Chain.{system_is}
use Rattle.periodic_candidate.proofs.eliminated.Goals as goal

pub returns : goal.returns
returns c =
    let g = c.args in
    c.solve.ensures
    ∙ ap (solve g.n) (system_is g.n g.columns.now c.system.result (take g.n g.offset) c.system.ensures)
