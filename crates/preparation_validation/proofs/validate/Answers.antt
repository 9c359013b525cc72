-- `preparation_validation::validate` meets its contract.
use Rattle.preparation_validation.proofs.Tests.{window-fails, sample_fails, event_fails, valid}
use Rattle.preparation_validation.proofs.validate.Goals as goal

pub returns-then-not-all_within : goal.returns-then-not-all_within
returns-then-not-all_within c =
    sample_fails _ _ _ _ c.window_passes.ensures c.all_within.ensures
    (c.if-not-window_passes.false) (c.if-not-all_within.true)

pub returns-then-not-events_pass : goal.returns-then-not-events_pass
returns-then-not-events_pass c =
    event_fails _ _ _ _ c.window_passes.ensures c.all_within.ensures (c.if-not-window_passes.false)
    c.events_pass.ensures (c.if-not-all_within.false) (c.if-not-events_pass.true)

pub returns : goal.returns
returns c =
    valid _ _ _ _ c.window_passes.ensures c.all_within.ensures (c.if-not-window_passes.false)
    c.events_pass.ensures (c.if-not-all_within.false) (c.if-not-events_pass.false)

pub returns-then-not-window_passes : goal.returns-then-not-window_passes
returns-then-not-window_passes c = window-fails _ _ _ _ c.window_passes.ensures (c.if-not-window_passes.true)
