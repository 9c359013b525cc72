-- `elimination::system` meets its contract.
use Rattle.cycle.specs.Elimination.{system_cell}
use Rattle.elimination_steps.proofs.Tables.{table-made, system-lead}
use Rattle.elimination.proofs.system.Goals as goal

pub returns : goal.returns
returns c =
    let g = c.args in
    table-made g.n (system_cell g.columns.now) _ c.requires c.system.ensures (system-lead g.n g.columns.now)
