-- The fold of a list, behind the tests ahead of it.
use mathlib.Core.Path.{◌≡◌}
use mathlib.Core.List.{List}
use Prim.Native.Nat.{ℕ, ◌≤◌}
use borrow.Author.Tests.{le-leb}
use lib.ListN.{length}
use lib.Ieee.{Float}
use Rattle.limits.specs.Limits.{most_cycle_events, most_samples}
use Rattle.refusal.specs.Result.{done}
use Rattle.linear_pk.specs.LinearPk.{sound, state_count}
use Rattle.linear_pk.specs.declared.kernel.LinearPk.{LinearPk}
use Rattle.protocol.specs.declared.Event.{Event}
use Rattle.protocol.specs.declared.Window.{Window}
use Rattle.cycle.specs.Fold.{fold}
use Rattle.fold.specs.Entry.{fold_entry}

pub entry_folds :
    (k : LinearPk) (w : Window) (ss : List Float) (es : List Event) {n : ℕ} → length es ≤ most_cycle_events → length ss ≤ most_samples
    → done k ≡ sound k → n ≡ state_count k → fold n w ss es ≡ fold_entry k w ss es
unfolding fold_entry
entry_folds k w ss es e s h q = rw (q, le-leb _ _ e, le-leb _ _ s, ← h)
