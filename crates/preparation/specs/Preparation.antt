-- `prepare_simulation` of the library: which test refuses first.
use Rattle.std.specs.Prelude.{◌&&◌, List, [], ◌∷◌, ℕ, leb, length, Float}
use Rattle.std.proofs.Math.Option.{Option, some, none}
use Rattle.limits.specs.Limits.{most_events, most_samples}
use Rattle.refusal.specs.Result.{Result, refused, done}
use Rattle.linear_pk.specs.LinearPk.{sound, state_count}
use Rattle.linear_pk.specs.declared.kernel.LinearPk.{LinearPk}
use Rattle.protocol.specs.First.{unless, first_of}
use Rattle.protocol.specs.Prepare.{prepare}
use Rattle.protocol.specs.declared.Event.{Event}
use Rattle.protocol.specs.declared.Window.{Window}
pub use Rattle.preparation_validation.specs.Validation.{option_number}

-- the kernel's own number
abbrev pub own_number : Result LinearPk → Option ℕ
own_number (refused c) = some c
own_number (done k) = none

-- `prepare_simulation`: 5, the kernel's own test, the preparation
unfoldable pub prepare_entry : LinearPk → Window → List Float → List Event → Option ℕ
prepare_entry k w ss es =
    first_of
    (unless (leb (length es) most_events && leb (length ss) most_samples) 5
    ∷ own_number (sound k)
    ∷ prepare (state_count k) w ss es
    ∷ [])
