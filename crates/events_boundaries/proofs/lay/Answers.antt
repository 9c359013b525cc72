use mathlib.Core.Path.{◌≡◌, ap, ◌∙◌}
use mathlib.Core.List.{List, [], ◌∷◌, ◌++◌}
use Prim.Native.Nat.{◌+◌, ◌-◌}
use native.Mathlib.Omega.{arith}
use borrow.Rule.Slice.PartMut.{put_mid}
use lib.Ieee.{Float, nan}
use lib.ListN.{length, length-set, set, take, get_or}
use Rattle.std.proofs.lemmas.List.{take_more_set}
use Rattle.binary64.specs.Lists.{flat_map}
use Rattle.protocol.specs.Events.{instants}
use Rattle.protocol.specs.declared.Event.TheVariants.{Bolus}
use Rattle.events_boundaries.proofs.Laying.{laid_more, laid_front}
use Rattle.events_boundaries.proofs.lay.Goals as goal

pub loop-event-init : goal.loop-event-init
loop-event-init c =
    let b = c.args.bounds.now in
    let w = c.args.window in
    let h = length-set b 0 w.start in (
      omega arith,
      ap (λ (x : List Float). x ++ flat_map instants c.args.events.now) (take_more_set (set b 0 w.start) 1 w.end (omega arith)
          ∙ ap (λ (x : List Float). x ++ w.end ∷ []) (take_more_set b 0 w.start (omega arith))),
    )

pub loop-event-preserved : goal.loop-event-preserved
loop-event-preserved c =
    let l = c.loop-event in
    let e = c.lay_event-n.ensures in
    let i = instants (get_or c.args.events.now l.event-index (Bolus nan 0 nan)) in
    let long = l.auto.bounds ∙ length-set (set c.args.bounds.now 0 c.args.window.start) 1 c.args.window.end ∙ length-set c.args.bounds.now 0 c.args.window.start in
    let laid : take (l.n + c.lay_event-n.result) (put_mid l.n (length l.bounds - l.n) l.bounds c.lay_event-n.new.room) ≡ take l.n l.bounds ++ i =
    rw e.0 (laid_front l.n _ l.bounds i _ (omega (arith, long)) e.2) in
    (omega (arith, e.1), laid_more c.args.events.now (Bolus nan 0 nan) l.event-index (take l.n l.bounds) c.loop-event-test.true laid l.invariant.1)
