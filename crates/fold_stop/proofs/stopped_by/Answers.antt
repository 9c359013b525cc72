-- `fold_stop::stopped_by` meets its contract.
use Rattle.fold_stop.proofs.stopped_by.Goals as goal

pub returns-then-stopping : goal.returns-then-stopping
returns-then-stopping c =
    rw (← c.stopping.ensures, c.if-stopping.true) (rw (c.next_time.ensures, c.time.ensures) at
    c.earlier.ensures)

pub returns : goal.returns
returns c = rw (← c.stopping.ensures, c.if-stopping.false)
