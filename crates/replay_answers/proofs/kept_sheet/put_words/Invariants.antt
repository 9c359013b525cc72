-- `replay_answers::kept_sheet::put_words` meets its contract. The invariant: the bytes are those of the numbers so far, and these, with those of
-- the words that are left, are the text's.
use Rattle.std.proofs.Common.{◌≡◌, ℕ, List, length, drop, eqb}
use Rattle.std.specs.List.{slice_split}
use Rattle.replay_answers.specs.Words.{line_numbers}
use Rattle.replay_answers.specs.Sheet.{bytes_of}
use Rattle.replay_answers.proofs.Behind.{behind}
use Rattle.replay_answers.proofs.kept_sheet.put_words.Given as goal

abbrev pub invariant-loop-word : goal.invariant-loop-word
invariant-loop-word l =
    (ns : List ℕ) × (behind ns (drop (length l.yielded) (slice_split (λ b. eqb b 32) l.text)) ≡ line_numbers l.text)
    × (l.bytes.items ≡ bytes_of ns) × (l.count ≡ length ns)
