-- `replay_answers::entries::tally_lines` meets its contract. The invariant: the counts are those of the lines so far.
use Rattle.std.specs.List.{FoldsTo}
use Rattle.std.specs.Fn.{FnReturnsAt}
use Rattle.replay_answers.specs.Placed.{placed_counts_of, no_placed_counts, PlacedCounted}
use Rattle.replay_answers.proofs.entries.tally_lines.Given as goal

abbrev pub invariant-loop-line : goal.invariant-loop-line
invariant-loop-line g l =
    FoldsTo (λ a line b. PlacedCounted g.E.Placed.place_of (λ text r. FnReturnsAt g.F.Fn l.call text r) a line.now b) no_placed_counts l.yielded (placed_counts_of l.tally)
