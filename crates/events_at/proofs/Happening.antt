-- An instant of one of the events.
use mathlib.Core.Path.{◌≡◌, refl, ap, sym, ◌∙◌}
use mathlib.Core.Bool.{Bool, ◌||◌}
use mathlib.Core.List.{List, [], ◌∷◌}
use lib.Ieee.{Float, eq}
use Rattle.binary64.specs.Lists.{any, flat_map}
use Rattle.protocol.specs.Events.{instants, has_event}
use Rattle.protocol.specs.declared.Event.{Event}
use Rattle.events_at.specs.At.{happens}
use Rattle.events_times.proofs.Either.{any_append}

pub has_event_any : (t : Float) (es : List Event) → any (happens t) es ≡ has_event t es
has_event_any t [] = refl
has_event_any t (e ∷ es) =
    ap (λ (b : Bool). happens t e || b) (has_event_any t es) ∙ sym (any_append (λ (x : Float). eq x t) (instants e) (flat_map instants es))
