-- What an event does at an instant. Definitions only.
use Rattle.std.specs.Prelude.{List, Bool, false, ◌&&◌, ◌||◌, ℕ, Float}
use mathlib.Core.List.{zip_with}
use Rattle.std.specs.Float.Ieee.{eq}
use Rattle.binary64.specs.Lists.{any}
use Rattle.protocol.specs.Events.{instants, running}
use Rattle.protocol.specs.declared.Event.{Event}
use Rattle.protocol.specs.declared.Event.TheVariants.{Bolus, Infusion, Reset}

-- an event or its end is at t
abbrev pub happens : Float → Event → Bool
happens t e = any (λ (x : Float). eq x t) (instants e)

-- a reset at t that stops its target's infusions
unfoldable pub stops_at : Float → Event → Bool
stops_at t (Bolus s i a) = false
stops_at t (Infusion s i a d) = false
stops_at t (Reset s i v o c) = eq s t && c

-- the marks of the events, behind a reset at t that stops the infusions on the target i
unfoldable pub marked_by : Float → ℕ → List Event → List Bool → List Bool
marked_by t i es ms = zip_with (λ (e : Event) (m : Bool). m || running t i e) es ms
