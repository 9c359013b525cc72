-- `linear_pk_mammillary::rate` meets its contract.
use borrow.Author.Tests.{lt-ltb, le-ltb, eq-eqb, ne_eqb}
use lib.Ieee.{of_bits}
use Rattle.linear_pk_mammillary.specs.Rates.{mammillary_rate}
use Rattle.linear_pk_mammillary.proofs.rate.Goals as goal

pub returns-then-j-c : goal.returns-then-j-c
unfolding mammillary_rate of_bits
returns-then-j-c c = rw (c.unwrap_or-k.ensures, ← c.is_some.ensures, ← c.central-c.ensures.0, lt-ltb _ _ c.if-i-c.true, lt-ltb _ _ c.if-j-c.true)

pub returns-then-i-c : goal.returns-then-i-c
unfolding mammillary_rate of_bits
returns-then-i-c c = rw (← c.is_some.ensures, ← c.central-c.ensures.0, lt-ltb _ _ c.if-i-c.true, le-ltb _ _ c.if-j-c.false)

pub returns-then-j-c-2 : goal.returns-then-j-c-2
unfolding mammillary_rate of_bits
returns-then-j-c-2 c =
    rw (
      c.unwrap_or-k.ensures,
      ← c.is_some.ensures,
      ← c.central-c.ensures.0,
      le-ltb _ _ c.if-i-c.false,
      eq-eqb _ _ c.if-i-c-2.true,
      lt-ltb _ _ c.if-j-c-2.true,
    )

pub returns-then-i-c-2 : goal.returns-then-i-c-2
unfolding mammillary_rate
returns-then-i-c-2 c =
    rw (
      ← c.is_some.ensures,
      ← c.central-c.ensures.0,
      le-ltb _ _ c.if-i-c.false,
      eq-eqb _ _ c.if-i-c-2.true,
      le-ltb _ _ c.if-j-c-2.false,
    ) c.central_rate.ensures

pub returns : goal.returns
unfolding mammillary_rate
returns c =
    rw (← c.is_some.ensures, ← c.central-c.ensures.0, le-ltb _ _ c.if-i-c.false, ne_eqb _ _ c.if-i-c-2.false)
    c.peripheral_rate.ensures
