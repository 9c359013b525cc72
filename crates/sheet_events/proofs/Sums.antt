-- `ordered`, event by event.
use mathlib.Core.Path.{◌≡◌, refl}
use mathlib.Core.List.{List, [], ◌∷◌, ◌++◌}
use lib.Ieee.{Float}
use Rattle.protocol.specs.declared.Event.{Event}
use Rattle.sheet_events.specs.OrderedDoses.{plus_dose, ordered_from}

-- one event more
pub ordered_more : (s : Float) (es : List Event) (e : Event) → ordered_from s (es ++ (e ∷ [])) ≡ plus_dose (ordered_from s es) e
unfolding ordered_from
ordered_more s [] e = refl
ordered_more s (d ∷ es) e = ordered_more (plus_dose s d) es e
