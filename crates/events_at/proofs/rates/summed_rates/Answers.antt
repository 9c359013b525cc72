use mathlib.Core.Path.{refl, ◌∙◌, ◌≡◌}
use lib.ListN.{length-set}
use lib.Ieee.{of_bits, binary64}
use Rattle.protocol.specs.Schedule.{summed}
use Rattle.events_at.proofs.SummedRates.{rates-more, rates-done, rate_put}
use Rattle.std.proofs.lemmas.List.{take-replicate}
use Rattle.std.proofs.lemmas.Slice.Zip.{either_empty_from_Zip}
use Rattle.std.specs.Iterator.Adapters.{zip_first, zip_second}
use Rattle.std.specs.Slice.Iter.{iter_rest}
use Rattle.events_at.proofs.rates.summed_rates.Goals as goal

pub loop-event-init : goal.loop-event-init
unfolding summed of_bits
loop-event-init c =
    let e : iter_rest (zip_first c.into_iter-event-iterator.result) ≡ c.args.events.now = cc in
    let m : iter_rest (zip_second c.into_iter-event-iterator.result) ≡ c.args.marks.now = cc in
    (refl, rw (e, m, take-replicate c.args.n 4 (of_bits binary64 0) c.requires))

pub loop-event-preserved-then-i-n : goal.loop-event-preserved-then-i-n
loop-event-preserved-then-i-n c =
    let g = c.args in
    let l = c.loop-event in (
      length-set l.rates c.target-i.result _ ∙ l.invariant.0,
      rates-more g.n g.t c.in-Some.event.now c.in-Some.marked.now l.rates _ c.in-Some.ensures.steps.0 c.in-Some.ensures.steps.1
          (rate_put g.n g.t c.in-Some.event.now c.in-Some.marked.now c.flows.ensures l.rates c.target-i.result c.if-flows.true
          c.target-i.ensures c.rate_of.ensures c.if-i-n.true) l.invariant.1,
    )

pub returns : goal.returns
returns c = rates-done c.args.n c.args.t c.loop-event.rates (either_empty_from_Zip c.loop-event.event-iterator c.next.new.self _ c.in-None.is c.next.ensures.steps) c.loop-event.invariant.1
