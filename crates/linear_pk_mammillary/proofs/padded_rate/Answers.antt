-- `linear_pk_mammillary::padded_rate` meets its contract.
use borrow.Author.Tests.{lt-ltb, le-ltb}
use lib.Ieee.{of_bits}
use Rattle.linear_pk_mammillary.proofs.padded_rate.Goals as goal

pub returns-then-j-n : goal.returns-then-j-n
unfolding of_bits
returns-then-j-n c = rw (← c.is_some.ensures, ← c.central.ensures.0, lt-ltb _ _ c.if-i-n.true, lt-ltb _ _ c.if-j-n.true, c.is_some.ensures) c.rate.ensures

pub returns-else-j-n : goal.returns-else-j-n
unfolding of_bits
returns-else-j-n c = rw (← c.is_some.ensures, ← c.central.ensures.0, lt-ltb _ _ c.if-i-n.true, le-ltb _ _ c.if-j-n.false)

pub returns-else-i-n : goal.returns-else-i-n
unfolding of_bits
returns-else-i-n c = rw (← c.is_some.ensures, ← c.central.ensures.0, le-ltb _ _ c.if-i-n.false)
