-- The tests of a window with its samples and events, test by test.
use mathlib.Core.Path.{◌≡◌}
use mathlib.Core.Bool.{Bool, true, false}
use mathlib.Core.List.{List, []}
use Prim.Native.Nat.{ℕ}
use lib.Ieee.{Float}
use Rattle.binary64.specs.Lists.{all}
use Rattle.protocol.specs.Prepare.{validate, window_passes, within, events_pass}
use Rattle.protocol.specs.declared.Window.{Window}
use Rattle.protocol.specs.declared.Event.{Event}
use Rattle.preparation_validation.specs.Validation.{option_number}

-- `validate`, test by test
module _ (n : ℕ) (w : Window) (ss : List Float) (es : List Event) {b : Bool} (p : b ≡ window_passes w) where
  pub window-fails : b ≡ false → 10 ≡ option_number (validate n w ss es)
  unfolding validate
  window-fails f = rw (← p, f)

  module _ {c : Bool} (q : c ≡ all (within w) ss) (t : b ≡ true) where
    pub sample_fails : c ≡ false → 11 ≡ option_number (validate n w ss es)
    unfolding validate
    sample_fails f = rw (← p, t, ← q, f)

    module _ {d : Bool} (r : d ≡ events_pass n w [] es) (u : c ≡ true) where
      pub event_fails : d ≡ false → 12 ≡ option_number (validate n w ss es)
      unfolding validate
      event_fails f = rw (← p, t, ← q, u, ← r, f)

      pub valid : d ≡ true → 0 ≡ option_number (validate n w ss es)
      unfolding validate
      valid f = rw (← p, t, ← q, u, ← r, f)
