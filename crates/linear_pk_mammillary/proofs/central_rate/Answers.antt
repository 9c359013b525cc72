-- `linear_pk_mammillary::central_rate` meets its contract.
use borrow.Author.Tests.{eq-eqb, ne_eqb}
use Rattle.linear_pk_mammillary.proofs.central_rate.Goals as goal

pub returns-then-j-c : goal.returns-then-j-c
returns-then-j-c c = rw (eq-eqb _ _ c.if-j-c.true) c.diagonal.ensures

pub returns : goal.returns
returns c = rw (ne_eqb _ _ c.if-j-c.false)
