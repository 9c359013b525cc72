-- `linear_pk_mammillary::diagonal` meets its contract. The invariant: the first exchanges are taken off.
use mathlib.Core.Path.{◌≡◌}
use Rattle.linear_pk_mammillary.specs.Rates.{diagonal_to}
use Rattle.linear_pk_mammillary.proofs.diagonal.Given as goal

abbrev pub invariant-loop-q : goal.invariant-loop-q
invariant-loop-q l = l.sum ≡ diagonal_to l.clearance l.volumes l.exchange l.q-index
