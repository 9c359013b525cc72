-- `normalize_periodic_cycle` of the library: the tests ahead of the fold.
use Rattle.std.specs.Prelude.{◌&&◌, List, leb, length, Float}
use Rattle.limits.specs.Limits.{most_cycle_events, most_samples}
use Rattle.refusal.specs.Result.{Result, and_then, unless}
use Rattle.linear_pk.specs.LinearPk.{sound, state_count}
use Rattle.linear_pk.specs.declared.kernel.LinearPk.{LinearPk}
use Rattle.protocol.specs.declared.Event.{Event}
use Rattle.protocol.specs.declared.Window.{Window}
use Rattle.cycle.specs.Fold.{fold}

-- 5, the kernel's own test, the fold
unfoldable pub fold_entry : LinearPk → Window → List Float → List Event → Result (List Event)
unfolding fold
fold_entry k w ss es =
    and_then (unless (leb (length es) most_cycle_events && leb (length ss) most_samples) 5 k)
    (λ k. and_then (sound k) (λ k. fold (state_count k) w ss es))
