-- `replay_linear_pk::replay::rates_of` meets its contract. The invariant: the cells are the rates so far.
use Rattle.std.proofs.Common.{◌≡◌}
use Rattle.replay_linear_pk.proofs.replay.rates_of.Given as goal

abbrev pub invariant-loop-rate : goal.invariant-loop-rate
invariant-loop-rate l = l.cells.items ≡ l.yielded
