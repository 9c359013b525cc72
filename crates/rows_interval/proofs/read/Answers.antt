-- `rows_interval::read` meets its contract.
use Rattle.std.proofs.lemmas.Result.{err_from_is_err_and}
use Rattle.rows.specs.Lent.{cells_of}
use Rattle.rows.proofs.Steps.{reading-room, reading-stops, reading-goes}
use Rattle.rows.specs.Legs.{rates_of}
use Rattle.rows_interval.proofs.read.Goals as goal

pub returns-in_err-p-clause-ran : goal.returns-in_err-p-clause-ran
returns-in_err-p-clause-ran c =
    let g = c.args in
    let e = err_from_is_err_and c.from_residual.result c.from_residual.ensures.1 in
    rw (e.1, e.2) (reading-stops g.start (cells_of g.rows.now) g.leg.now.t (rates_of g.leg.now) g.s (c.in_err-p.ensures _))

pub write-q-requires : goal.write-q-requires
write-q-requires c =
    let g = c.args in
    (c.requires.states, reading-room g.start (cells_of g.rows.now) g.leg.now.t (rates_of g.leg.now) g.s (c.in_ok-p.ensures _) c.requires)

pub returns-clause-ran : goal.returns-clause-ran
returns-clause-ran c =
    let g = c.args in
    rw c.with_amounts.ensures (reading-goes g.start (cells_of g.rows.now) g.leg.now.t (rates_of g.leg.now) g.s (c.in_ok-p.ensures _)
    c.write-q.ensures.behind c.write-q.ensures.row)
