-- `replay_answers::kept::kept_doubles` meets its contract. The invariant: the list has the doubles of the patterns so far.
use Rattle.std.proofs.Common.{◌≡◌, map, take}
use Rattle.std.specs.Float.{binary64}
use Rattle.std.specs.Float.Ieee.{of_bits}
use Rattle.replay_answers.proofs.kept.kept_doubles.Given as goal

abbrev pub invariant-loop-bits : goal.invariant-loop-bits
invariant-loop-bits g l = l.list.items ≡ map (of_bits binary64) (take l.bits-index l.patterns-2)
