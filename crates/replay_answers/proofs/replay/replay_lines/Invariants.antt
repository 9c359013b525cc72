-- `replay_answers::replay::replay_lines` meets its contract. The invariant: the counts are those of the lines so far.
use Rattle.std.specs.List.{FoldsTo}
use Rattle.std.specs.Fn.{FnReturnsAt}
use Rattle.replay_answers.specs.Tally.{counts_of, no_counts, Counted}
use Rattle.replay_answers.proofs.replay.replay_lines.Given as goal

abbrev pub invariant-loop-line : goal.invariant-loop-line
invariant-loop-line g l =
    FoldsTo (λ a line b. Counted (λ text r. FnReturnsAt g.F.Fn l.call text r) a line.items b) no_counts l.yielded (counts_of l.tally)
