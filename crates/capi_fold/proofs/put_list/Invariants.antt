-- `capi_fold::put_list` meets its contract. The invariant: the words of the events so far stand in front.
use Rattle.capi_fold.proofs.Listings.{Put}
use Rattle.capi_fold.proofs.put_list.Given as goal

abbrev pub invariant-loop-event : goal.invariant-loop-event
invariant-loop-event l = Put l.list l.initial.out l.event-index l.at l.out
