-- `replay_numbers::number` meets its contract. The invariant: what the bytes that are left make of the value is what the word spells.
use mathlib.Core.Path.{◌≡◌}
use lib.ListN.{drop}
use Rattle.replay_numbers.specs.Text.{number_of, number_from}
use Rattle.replay_numbers.proofs.number.Given as goal

abbrev pub invariant-loop-byte : goal.invariant-loop-byte
invariant-loop-byte l = number_from l.value (drop l.byte-index l.word) ≡ number_of l.word
