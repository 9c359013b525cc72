-- `simulate` ensures demand 3 of its call.
use borrow.Author.Rules.{rules}
use Rattle.theorem_calls.proofs.Doubles.{times_fit}
use Rattle.theorem_calls.proofs.Calls.{simulated}
use Rattle.theorem_calls.proofs.simulate.Goals as goal

pub returns : goal.returns
returns c =
    simulated
    (record { reply = c.simulate.ensures.result_value; slices = record { times = c.simulate.ensures.times_after; sides = c.simulate.ensures.sides_after; values = c.simulate.ensures.values_after } })
    (times_fit (search rules) (search rules) c.shared_slice_known-2-1.given c.read_times.ensures)
