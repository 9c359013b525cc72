-- `linear_pk_propagator::propagator` meets its contract.
use Rattle.linear_pk_propagator.specs.Propagator.{propagator}
use Rattle.linear_pk_propagator.proofs.propagator.Goals as goal

pub returns : goal.returns
unfolding propagator
returns c = rw (← c.block_of.ensures.part) c.exponential.ensures
