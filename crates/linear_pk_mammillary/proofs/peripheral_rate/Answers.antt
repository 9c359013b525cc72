-- `linear_pk_mammillary::peripheral_rate` meets its contract.
use borrow.Author.Tests.{eq-eqb, ne_eqb}
use lib.Ieee.{of_bits}
use Rattle.linear_pk_mammillary.proofs.peripheral_rate.Goals as goal

pub returns-then-j-c : goal.returns-then-j-c
unfolding of_bits
returns-then-j-c c = rw (eq-eqb _ _ c.if-j-c.true)

pub returns-then-j-i : goal.returns-then-j-i
unfolding of_bits
returns-then-j-i c = rw (ne_eqb _ _ c.if-j-c.false, eq-eqb _ _ c.if-j-i.true)

pub returns-else-j-i : goal.returns-else-j-i
unfolding of_bits
returns-else-j-i c = rw (ne_eqb _ _ c.if-j-c.false, ne_eqb _ _ c.if-j-i.false)
