-- `replay_answers::sheet::bytes_of` meets its contract. The invariant: the bytes so far, and those of the words that are left, are the words'.
use Rattle.std.proofs.Common.{◌≡◌, ◌++◌, drop}
use Rattle.replay_answers.specs.Sheet.{bytes_of}
use Rattle.replay_answers.proofs.sheet.bytes_of.Given as goal

abbrev pub invariant-loop-word : goal.invariant-loop-word
invariant-loop-word l = l.bytes.items ++ bytes_of (drop l.word-index l.words) ≡ bytes_of l.words
