use lib.Ieee.{nan}
use Rattle.linear_pk_interval.proofs.Laid.{laying_start, laying_more, laying_done}
use Rattle.linear_pk_interval.proofs.lay.Goals as goal

pub loop-i-preserved : goal.loop-i-preserved
loop-i-preserved c = laying_more _ _ nan _ c.requires c.loop-i.invariant c.loop-i-test.true

pub loop-i-init : goal.loop-i-init
loop-i-init c = laying_start _ _

pub returns : goal.returns
returns c = laying_done _ _ _ c.loop-i-test.false c.loop-i.invariant
