-- `simulate_twice` ensures demand 3 of its two calls.
use mathlib.Core.Path.{refl}
use denote.Floats.{passes}
use Rattle.theorem_calls.proofs.Doubles.{times_fit}
use Rattle.theorem_calls.proofs.Calls.{same_rows}
use Rattle.theorem_calls.proofs.simulate_twice.Goals as goal

pub returns : goal.returns
returns c =
    let start = passes _ c.well_formed.1.1.0.1 in
    let end = passes _ c.well_formed.1.1.1.0.1 in
    same_rows c.simulate-first.result c.simulate-second.result
    (record { reply = (rw c.window_of.ensures at c.simulate-first.ensures.result_value); slices = record { times = (rw c.window_of.ensures at c.simulate-first.ensures.times_after); sides = (rw c.window_of.ensures at c.simulate-first.ensures.sides_after); values = (rw c.window_of.ensures at c.simulate-first.ensures.values_after) } })
    (record { reply = (rw c.window_of-2.ensures at c.simulate-second.ensures.result_value); slices = record { times = (rw c.window_of-2.ensures at c.simulate-second.ensures.times_after); sides = (rw c.window_of-2.ensures at c.simulate-second.ensures.sides_after); values = (rw c.window_of-2.ensures at c.simulate-second.ensures.values_after) } })
    (times_fit start end c.shared_slice_known-2-1.given c.read_times.ensures)
    (times_fit start end c.shared_slice_known-3-1.given c.read_times.ensures)
    (record { kernel = refl; amounts = refl; start = refl; end = refl; listed = refl })
