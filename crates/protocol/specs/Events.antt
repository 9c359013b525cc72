-- 01, "The rows of a run": an event's time and target, an infusion's end, the boundaries, what happens at one, and which samples are read between two.
-- Rust: `boundaries`, `has_event`, `sorted_unique` and the loop of `simulate_matrix`, lib.rs. Definitions only.
use Rattle.std.specs.Prelude.{ℕ, Bool, false, ◌&&◌, List, [], ◌∷◌, leb, eqb, Float}
use Rattle.std.specs.Float.{binary64}
use Rattle.std.specs.Float.Ieee.{add, lt, eq}
use Rattle.binary64.specs.Doubles.{plus_zero, total_le}
use Rattle.binary64.specs.Sort.{sort_by, firsts}
use Rattle.protocol.specs.declared.Event.{Event}
use Rattle.protocol.specs.declared.Event.TheVariants.{Bolus, Infusion, Reset}
use Rattle.protocol.specs.declared.Window.{Window}
use Rattle.binary64.specs.Lists.{any, filter, flat_map}

abbrev pub time : Event → Float
time (Bolus t i a) = t
time (Infusion t i a d) = t
time (Reset t i v o c) = t

unfoldable pub target : Event → ℕ
target (Bolus t i a) = i
target (Infusion t i a d) = i
target (Reset t i v o c) = i

-- what stands in an array past the last event of a list
abbrev pub no_event : Event
no_event = Bolus plus_zero 0 plus_zero

-- a reset's order
abbrev pub order : Event → ℕ
order (Bolus t i a) = 0
order (Infusion t i a d) = 0
order (Reset t i v o c) = o

-- the end of an infusion
abbrev pub ends : Event → List Float
ends (Bolus t i a) = []
ends (Infusion t i a d) = add binary64 t d ∷ []
ends (Reset t i v o c) = []

abbrev pub instants : Event → List Float
instants e = time e ∷ ends e

-- sorted by total order, equal ones (==) reduced to the first
unfoldable pub sorted_unique : List Float → List Float
sorted_unique ts = firsts eq (sort_by total_le ts)

-- start, end, event times, infusion ends
abbrev pub boundary_times : Float → Float → List Event → List Float
boundary_times start end es = start ∷ end ∷ flat_map instants es

unfoldable pub boundaries : Window → List Event → List Float
boundaries w es = sorted_unique (boundary_times w.start w.end es)

-- an event or an infusion's end is at t
abbrev pub has_event : Float → List Event → Bool
has_event t es = any (λ (x : Float). eq x t) (flat_map instants es)

-- at t: the resets by order, the boluses in list order
unfoldable pub is_reset : Float → Event → Bool
is_reset t (Bolus s i a) = false
is_reset t (Infusion s i a d) = false
is_reset t (Reset s i v o c) = eq s t

unfoldable pub is_bolus : Float → Event → Bool
is_bolus t (Bolus s i a) = eq s t
is_bolus t (Infusion s i a d) = false
is_bolus t (Reset s i v o c) = false

abbrev pub by_order : Event → Event → Bool
by_order a b = leb (order a) (order b)

abbrev pub resets : Float → List Event → List Event
resets t es = sort_by by_order (filter (is_reset t) es)

abbrev pub boluses : Float → List Event → List Event
boluses t es = filter (is_bolus t) es

-- an infusion on the target i with time < t < end
unfoldable pub running : Float → ℕ → Event → Bool
running t i (Bolus s j a) = false
running t i (Infusion s j a d) = eqb i j && (lt s t && lt t (add binary64 s d))
running t i (Reset s j v o c) = false

-- a stopping reset at t marks e
unfoldable pub marks : Float → Event → Event → Bool
marks t (Bolus s i a) e = false
marks t (Infusion s i a d) e = false
marks t (Reset s i v o c) e = eq s t && (c && running t i e)

-- the samples strictly inside from t to u
abbrev pub inside : Float → Float → List Float → List Float
inside t u ss = filter (λ (s : Float). lt t s && lt s u) ss
