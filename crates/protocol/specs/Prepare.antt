-- 01, "The rows of a run": `prepare_simulation`. Rust: `prepare_simulation` and `validate`, lib.rs. Definitions only.
use Rattle.std.specs.Prelude.{ℕ, ◌+◌, ◌*◌, Bool, true, false, not, ◌&&◌, List, [], ◌∷◌, leb, ltb, eqb, length, Float}
use Rattle.std.proofs.Math.Option.{Option}
use Rattle.std.specs.Float.{binary64}
use Rattle.std.specs.Float.Ieee.{add, div, lt, le, eq}
use Rattle.std.specs.Float.Ieee.Scale.{finite}
use Rattle.binary64.specs.Doubles.{nonnegative, positive}
use Rattle.protocol.specs.declared.Event.{Event}
use Rattle.protocol.specs.declared.Event.TheVariants.{Bolus, Infusion, Reset}
use Rattle.protocol.specs.declared.Window.{Window}
use Rattle.binary64.specs.Lists.{any, all}
use Rattle.protocol.specs.First.{unless, first_of}
use Rattle.protocol.specs.Events.{time, target}

-- ends finite and increasing, tolerances finite and above 0
abbrev pub window_passes : Window → Bool
window_passes w = finite w.start && (finite w.end && (lt w.start w.end && (positive w.rtol && positive w.atol)))

-- finite and in the window, ends included
abbrev pub within : Window → Float → Bool
within w t = finite t && (le w.start t && le t w.end)

-- a reset with this time and order, -0 and +0 one time
abbrev pub same_reset : Float → ℕ → Event → Bool
same_reset t o (Bolus s i a) = false
same_reset t o (Infusion s i a d) = false
same_reset t o (Reset s i v q c) = eq s t && eqb q o

-- an event's values, with those ahead of it in the list
abbrev pub event_values_pass : Window → List Event → Event → Bool
event_values_pass w seen (Bolus t i a) = nonnegative a
event_values_pass w seen (Infusion t i a d) =
    nonnegative a && (positive d && (lt t (add binary64 t d) && (le (add binary64 t d) w.end && finite (div binary64 a d))))
event_values_pass w seen (Reset t i v o c) = finite v && not (any (same_reset t o) seen)

abbrev pub event_passes : ℕ → Window → List Event → Event → Bool
event_passes n w seen e = within w (time e) && (ltb (target e) n && event_values_pass w seen e)

-- event by event
abbrev pub events_pass : ℕ → Window → List Event → List Event → Bool
events_pass n w seen [] = true
events_pass n w seen (e ∷ es) = event_passes n w seen e && events_pass n w (e ∷ seen) es

-- the reckoned rows
abbrev pub reckoned : List Float → List Event → ℕ
reckoned ss es = 4 * length es + length ss + 2

-- `validate`, for n states: none, or the number of the first test that fails
unfoldable pub validate : ℕ → Window → List Float → List Event → Option ℕ
validate n w ss es = first_of (unless (window_passes w) 10 ∷ unless (all (within w) ss) 11 ∷ unless (events_pass n w [] es) 12 ∷ [])

-- 13, `validate`, 14
unfoldable pub prepare : ℕ → Window → List Float → List Event → Option ℕ
unfolding validate
prepare n w ss es =
    first_of
    (unless (leb (length es) w.events) 13
    ∷ validate n w ss es
    ∷ unless (leb (reckoned ss es * n) w.outputs) 14
    ∷ [])
