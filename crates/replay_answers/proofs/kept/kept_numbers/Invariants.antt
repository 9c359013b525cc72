-- `replay_answers::kept::kept_numbers` meets its contract. The invariant: the numbers so far, and those of the words that are left, are the line's; there is room for
-- those so far.
use Rattle.std.proofs.Common.{◌≡◌, ◌≤◌, length, drop, eqb}
use Rattle.std.specs.List.{slice_split}
use Rattle.replay_answers.specs.Words.{line_numbers}
use Rattle.replay_answers.proofs.Behind.{behind}
use Rattle.replay_answers.proofs.kept.kept_numbers.Given as goal

abbrev pub invariant-loop-word : goal.invariant-loop-word
invariant-loop-word l =
    (behind l.numbers.items (drop (length l.yielded) (slice_split (λ b. eqb b 32) l.line)) ≡ line_numbers l.line) × (length l.numbers.items ≤ 256)
