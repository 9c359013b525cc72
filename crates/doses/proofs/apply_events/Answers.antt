-- `doses::apply_events` meets its contract.
use Rattle.std.proofs.lemmas.Result.{err_from_is_err_and}
use borrow.Author.Rules.{rules}
use Rattle.protocol.specs.Events.{is_bolus, resets, boluses}
use Rattle.doses.proofs.Doses.{both_stops, both_done}
use Rattle.doses.proofs.apply_events.Goals as goal

pub returns-in_err-p : goal.returns-in_err-p
returns-in_err-p c =
    let g = c.args.boundary.now in
    let e = err_from_is_err_and c.from_residual.result c.from_residual.ensures.1 in
    rw (e.1, e.2) (both_stops g.at.n g.at.t c.args.start (resets g.at.t g.events.now) (boluses g.at.t g.events.now) c.in_err-p.ensures)

pub returns : goal.returns
returns c =
    let g = c.args.boundary.now in
    both_done g.at.n g.at.t c.args.start (resets g.at.t g.events.now) (boluses g.at.t g.events.now) c.in_ok-p.ensures (c.apply_where.ensures (is_bolus g.at.t) (λ e b s. search rules))
