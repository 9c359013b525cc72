-- `preparation::admission::admitted` meets its contract.
use mathlib.Core.List.{[], ◌∷◌}
use Rattle.protocol.specs.First.{unless}
use Rattle.protocol.specs.Prepare.{reckoned, prepare}
use Rattle.protocol.specs.Entry.{room_for}
use Rattle.simulation_report.specs.Replies.{room}
use Rattle.std.proofs.lemmas.Result.{err_from_is_err_and}
use Rattle.refusal.proofs.Numbers.{refusal-number}
use Rattle.preparation.proofs.Tests.{first_refused, prepare-passes}
use Rattle.preparation.proofs.admission.admitted.Goals as goal

pub returns-in_err-prepared : goal.returns-in_err-prepared
returns-in_err-prepared c =
    let g = c.args in
    let p = err_from_is_err_and c.from_residual.result c.from_residual.ensures.1 in
    rw (p.1, p.2) (first_refused (prepare g.n g.window g.samples.now g.events.now) (unless (room_for (reckoned g.samples.now g.events.now) g.n
    (room g.times g.sides g.values)) 4 ∷ []) (refusal-number c.in_err-prepared.field-0.0) c.in_err-prepared.ensures)

pub returns-then-rows-times : goal.returns-then-rows-times
returns-then-rows-times c =
    let g = c.args in
    let e = prepare-passes g.n g.window g.samples.now g.events.now
    c.in_ok-prepared.ensures in
    rw (e, ← c.reckoned_rows-rows.ensures, c.if-rows-times.true)

pub returns-else-rows-times : goal.returns-else-rows-times
returns-else-rows-times c =
    let g = c.args in
    let e = prepare-passes g.n g.window g.samples.now g.events.now
    c.in_ok-prepared.ensures in
    rw (e, ← c.reckoned_rows-rows.ensures, c.if-rows-times.false)
