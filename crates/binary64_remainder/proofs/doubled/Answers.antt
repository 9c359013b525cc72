use Rattle.binary64_remainder.proofs.Values.{twice}
use Rattle.binary64_remainder.proofs.doubled.Goals as goal

pub loop-i-preserved : goal.loop-i-preserved
loop-i-preserved c = twice c.loop-i.left c.args.r c.loop-i._i c.args.q c.loop-i.invariant
