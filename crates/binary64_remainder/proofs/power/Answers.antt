use Rattle.binary64_remainder.proofs.Values.{small_power_units, small_power_within, power_units}
use Rattle.binary64_remainder.proofs.power.Goals as goal

pub returns-then-k-lt52-clause-units : goal.returns-then-k-lt52-clause-units
returns-then-k-lt52-clause-units c = small_power_units c.args.k c.if-k-lt52.true

pub returns-then-k-lt52-clause-within : goal.returns-then-k-lt52-clause-within
returns-then-k-lt52-clause-within c = small_power_within c.args.k c.if-k-lt52.true

pub returns-clause-units : goal.returns-clause-units
returns-clause-units c = power_units c.args.k c.if-k-lt52.false
