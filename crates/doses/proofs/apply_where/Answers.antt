use mathlib.Core.Path.{refl, sym, ap, ◌∙◌}
use native.Mathlib.Numerals.{add-one}
use lib.Seq.{drop-cons}
use Rattle.std.proofs.Common.{drop_of_length-le}
use Rattle.std.proofs.lemmas.Fn.{says_at}
use Rattle.std.proofs.lemmas.Result.{err_from_is_err_and}
use Rattle.doses.proofs.Chains.{leads_same, leads_more, leads_stops, leads_end, passing, passing-more, passing-less}
use Rattle.doses.proofs.apply_where.Goals as goal
use Rattle.doses.proofs.apply_where.Goals.{then-test+in_ok-p, else-test}

pub returns-in_err-p : goal.returns-in_err-p
returns-in_err-p g c =
    λ p d.
    let e = err_from_is_err_and c.from_residual.result c.from_residual.ensures.1 in
    let rest = ap (passing c.args.at.t p) (drop-cons c.args.events.now c.loop-event.event-index _ c.loop-event-test.true) in
    rw (e.1, e.2) (leads_stops (c.loop-event.invariant p d) _ _
    (rest ∙ passing-more c.args.at.t p _ _ (sym (d _ _ (says_at g.F.Fn c.test.ensures refl)) ∙ c.if-test.true)) c.in_err-p.ensures)

pub loop-event-preserved : goal.loop-event-preserved
loop-event-preserved g c =
    λ p d.
    let l = c.loop-event.invariant p d in
    let rest = ap (passing c.args.at.t p) (drop-cons c.args.events.now c.loop-event.event-index _ c.loop-event-test.true) in
    let said = sym (d _ _ (says_at g.F.Fn c.test.ensures refl)) in
    elim c.if-test.branch [
      | then-test+in_ok-p w ↦ rw (add-one, w.p-is) (leads_more l _ _ (rest ∙ passing-more c.args.at.t p _ _ (said ∙ w.if-test.true)) w.in_ok-p.ensures)
      | else-test w ↦ rw (add-one, w.p-is) (leads_same l (rest ∙ passing-less c.args.at.t p _ _ (said ∙ w.if-test.false)))
    ]

pub returns : goal.returns
returns g c =
    λ p d. leads_end (c.loop-event.invariant p d) (ap (passing c.args.at.t p) (drop_of_length-le c.args.events.now c.loop-event-test.false))
