-- The numbers of tests in order are above 0.
use mathlib.Core.Bool.{Bool, true, false, ◌&&◌}
use mathlib.Core.List.{List, [], ◌∷◌}
use mathlib.Core.Option.{Option, some, none}
use Prim.Native.Nat.{ℕ, ◌*◌, ◌<◌}
use native.Mathlib.Omega.{arith}
use lib.Dec.{leb}
use lib.ListN.{length}
use lib.Ieee.{Float}
use Rattle.limits.specs.Limits.{most_events, most_samples}
use Rattle.binary64.specs.Lists.{all, amounts_pass}
use Rattle.binary64.proofs.Sorted.{All}
use Rattle.refusal.specs.Result as R
use Rattle.linear_pk.specs.LinearPk.{sound, volumes_pass, matrix_finite}
use Rattle.linear_pk.specs.declared.kernel.LinearPk.{LinearPk}
use Rattle.protocol.specs.First.{unless, first_of}
use Rattle.protocol.specs.Prepare.{window_passes, within, events_pass, reckoned, validate, prepare}
use Rattle.protocol.specs.Entry.{Room, room_for, first_refusal}
use Rattle.protocol.specs.declared.Event.{Event}
use Rattle.protocol.specs.declared.Window.{Window}
use Rattle.preparation.specs.Preparation.{own_number}

-- none, or a number above 0
abbrev pub Positive : Option ℕ → Type 0
Positive none = Unit {0}
Positive (some m) = 0 < m

pub unless-positive : (b : Bool) (m : ℕ) → 0 < m → Positive (unless b m)
unless-positive true m h = tt
unless-positive false m h = h

pub first_positive : (os : List (Option ℕ)) → All Positive os → Positive (first_of os)
first_positive [] h = tt
first_positive (none ∷ os) h = first_positive os h.1
first_positive (some m ∷ os) h = h.0

-- of the kernel's own test
pub own_positive : (k : LinearPk) → Positive (own_number (sound k))
own_positive k = on (volumes_pass k)
  where
    rates : (b : Bool) → Positive (own_number (R.unless b 2 k))
    rates true = tt
    rates false = omega arith

    on : (b : Bool) → Positive (own_number (R.and_then (R.unless b 1 k) (λ k. R.unless (matrix_finite k) 2 k)))
    on true = rates (matrix_finite k)
    on false = omega arith

-- of `validate` and of the preparation
pub validate-positive : (n : ℕ) (w : Window) (ss : List Float) (es : List Event) → Positive (validate n w ss es)
unfolding validate
validate-positive n w ss es =
    first_positive (unless (window_passes w) 10 ∷ unless (all (within w) ss) 11 ∷ unless (events_pass n w [] es) 12 ∷ []) (
      unless-positive (window_passes w) 10 (omega arith),
      (
        unless-positive (all (within w) ss) 11 (omega arith),
        (unless-positive (events_pass n w [] es) 12 (omega arith), tt),
      ),
    )

pub prepare-positive : (n : ℕ) (w : Window) (ss : List Float) (es : List Event) → Positive (prepare n w ss es)
unfolding prepare
prepare-positive n w ss es =
    first_positive (unless (leb (length es) w.events) 13 ∷ validate n w ss es ∷ unless (leb (reckoned ss es * n) w.outputs) 14 ∷ []) (
      unless-positive (leb (length es) w.events) 13 (omega arith),
      (
        validate-positive n w ss es,
        (unless-positive (leb (reckoned ss es * n) w.outputs) 14 (omega arith), tt),
      ),
    )

-- of the tests ahead of a run
pub ahead-positive : (k : LinearPk) (n : ℕ) (w : Window) (ss : List Float) (es : List Event) (a : List Float) (room : Room)
    → Positive (first_refusal (own_number (sound k)) n w ss es a room)
unfolding first_refusal
ahead-positive k n w ss es a room = on (leb (length es) most_events && leb (length ss) most_samples) (amounts_pass n a) (room_for (reckoned ss es) n room)
  where
    on : (b c d : Bool) → Positive (first_of (unless b 5 ∷ own_number (sound k) ∷ unless c 3 ∷ prepare n w ss es ∷ unless d 4 ∷ []))
    on b c d =
        first_positive (unless b 5 ∷ own_number (sound k) ∷ unless c 3 ∷ prepare n w ss es ∷ unless d 4 ∷ []) (
          unless-positive b 5 (omega arith),
          (
            own_positive k,
            (
              unless-positive c 3 (omega arith),
              (
                prepare-positive n w ss es,
                (unless-positive d 4 (omega arith), tt),
              ),
            ),
          ),
        )
