-- `replay_answers::words::numbers` meets its contract. The invariant: the numbers so far, and those of the words that are left, are the line's.
use Rattle.std.proofs.Common.{◌≡◌, length, drop, eqb}
use Rattle.std.specs.List.{slice_split}
use Rattle.replay_answers.specs.Words.{line_numbers}
use Rattle.replay_answers.proofs.Behind.{behind}
use Rattle.replay_answers.proofs.words.numbers.Given as goal

abbrev pub invariant-loop-word : goal.invariant-loop-word
invariant-loop-word l = behind l.numbers.items (drop (length l.yielded) (slice_split (λ b. eqb b 32) l.line)) ≡ line_numbers l.line
