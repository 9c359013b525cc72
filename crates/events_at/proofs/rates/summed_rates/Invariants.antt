-- `events_at::rates::summed_rates` meets its contract. The invariant: the events that are left, added to the rates so far, give the whole sum.
use mathlib.Core.Path.{◌≡◌}
use lib.ListN.{length}
use Rattle.std.specs.Iterator.Adapters.{zip_first, zip_second}
use Rattle.std.specs.Slice.Iter.{iter_rest}
use Rattle.limits.specs.Limits.{states}
use Rattle.protocol.specs.Schedule.{summed}
use Rattle.events_at.proofs.SummedRates.{rates_left}
use Rattle.events_at.proofs.rates.summed_rates.Given as goal

abbrev pub invariant-loop-event : goal.invariant-loop-event
invariant-loop-event l =
    (length l.rates ≡ states)
    × (rates_left l.n l.t (iter_rest (zip_first l.event-iterator)) (iter_rest (zip_second l.event-iterator)) l.rates ≡ summed l.n l.t l.events l.marks)
