-- `capi_fold::put_list` meets its contract.
use Rattle.capi_fold.proofs.Listings.{put_more}
use Rattle.capi_fold.proofs.put_list.Goals as goal

pub loop-event-preserved : goal.loop-event-preserved
loop-event-preserved c = put_more _ _ _ _ _ _ c.loop-event-test.true c.loop-event.invariant c.put_event-at.ensures
