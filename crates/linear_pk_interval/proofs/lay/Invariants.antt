-- `linear_pk_interval::lay` meets its contract. The invariant: the first i values are laid.
use Rattle.linear_pk_interval.proofs.Laid.{Laying}
use Rattle.linear_pk_interval.proofs.lay.Given as goal

abbrev pub invariant-loop-i : goal.invariant-loop-i
invariant-loop-i l = Laying l.values l.initial.out l.out l.i
