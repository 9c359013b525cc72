-- `periodic_residual::judged` meets its contract.
use lib.Ieee.{of_bits}
use Rattle.cycle.specs.Closed.{judged, scaled_of}
use Rattle.periodic_residual.proofs.judged.Goals as goal

pub returns-then-not-is_finite : goal.returns-then-not-is_finite
unfolding judged
returns-then-not-is_finite c = rw (← c.scale-divisor.ensures, ← c.is_finite.ensures, c.if-not-is_finite.true)

pub returns-then-not-is_finite-scaled : goal.returns-then-not-is_finite-scaled
unfolding judged scaled_of of_bits
returns-then-not-is_finite-scaled c =
    rw (
      ← c.scale-divisor.ensures,
      ← c.abs.ensures,
      ← c.is_finite.ensures,
      c.if-not-is_finite.false,
      ← c.is_finite-2.ensures,
      c.if-not-is_finite-scaled.true,
    )

pub returns : goal.returns
unfolding judged scaled_of of_bits
returns c =
    rw (
      c.max.ensures,
      ← c.scale-divisor.ensures,
      ← c.abs.ensures,
      ← c.is_finite.ensures,
      c.if-not-is_finite.false,
      ← c.is_finite-2.ensures,
      c.if-not-is_finite-scaled.false,
    )
