-- 01, "The folded cycle": what an infusion becomes within one period, and the list of a cycle, folded.
-- Rust: `normalize_periodic_cycle`, steady_state.rs. The numbers come in 01's order: 15, 13, then event by event 16, 17, 18, 13, at last
-- 10, 11, 12. Definitions only.
use Rattle.std.specs.Prelude.{ℕ, Bool, true, false, cond, ◌&&◌, List, [], ◌∷◌, ◌++◌, leb, eqb, length, Float}
use Rattle.std.proofs.Math.Option.{Option, some, none}
use Rattle.std.specs.Float.{binary64}
use Rattle.std.specs.Float.Ieee.{add, sub, mul, div, rem, lt, le}
use Rattle.std.specs.Float.Ieee.Scale.{finite}
use Rattle.binary64.specs.Doubles.{plus_zero, one, nonnegative, positive, smaller, floor_of}
use Rattle.binary64.specs.Lists.{any, pick}
use Rattle.refusal.specs.Result.{Result, refused, done, and_then, unless}
use Rattle.protocol.specs.declared.Event.{Event}
use Rattle.protocol.specs.declared.Event.TheVariants.{Bolus, Infusion, Reset}
use Rattle.protocol.specs.declared.Window.{Window}
use Rattle.protocol.specs.Events.{time}
use Rattle.protocol.specs.Prepare.{validate}

abbrev pub period : Window → Float
period w = sub binary64 w.end w.start

-- 15 unless the ends and the period are finite, and the period above 0
unfoldable pub cycle_passes : Window → Bool
cycle_passes w = finite w.start && (finite w.end && positive (period w))

-- 13 where there are more than the budget
unfoldable pub count_passes : Window → List Event → Bool
count_passes w es = leb (length es) w.events

-- 16 unless in [start, end)
unfoldable pub time_passes : Window → Float → Bool
time_passes w t = finite t && (le w.start t && lt t w.end)

-- 17 unless duration, amount and stop pass
unfoldable pub infusion_passes : Float → Float → Float → Bool
infusion_passes t a d = positive d && (nonnegative a && (finite (add binary64 t d) && lt t (add binary64 t d)))

-- a stopping reset on the target i
unfoldable pub stopping : ℕ → Event → Bool
stopping i (Bolus s j a) = false
stopping i (Infusion s j a d) = false
stopping i (Reset s j v o c) = c && eqb i j

-- the reset's time s if later than the infusion's time t, else plus a period p
abbrev pub next_time : Float → Float → Float → Float
next_time p t s = cond (lt t s) s (add binary64 s p)

-- the reset's next time x if that is after t and earlier than the stop so far
abbrev pub earlier : Float → Float → Float → Float
earlier t x stop = cond (lt t x && lt x stop) x stop

-- an infusion on the target i at t, that would stop at `stop`: the earliest of that and the next stopping resets
unfoldable pub stop_of : Float → Float → ℕ → Float → List Event → Float
unfolding stopping
stop_of p t i stop [] = stop
stop_of p t i stop (e ∷ es) = stop_of p t i (cond (stopping i e) (earlier t (next_time p t (time e)) stop) stop) es

-- c whole periods, over one period at the start
abbrev pub whole : Window → ℕ → Float → Float → Event
whole w i r c = Infusion w.start i (mul binary64 (mul binary64 r (period w)) c) (period w)

-- of the rate r over the length l, at t
abbrev pub piece : Float → ℕ → Float → Float → Event
piece t i r l = Infusion t i (mul binary64 r l) l

-- what is left, up to the end
abbrev pub head_of : Window → Float → Float → Float
head_of w t left = smaller left (sub binary64 w.end t)

-- what the head leaves, from the start
abbrev pub tail : Window → ℕ → Float → Float → List Event
tail w i r l = pick (lt plus_zero l) (piece w.start i r l) []

-- head, then tail, each only if above 0
unfoldable pub parts : Window → Float → ℕ → Float → Float → List Event
parts w t i r left =
    cond (lt plus_zero left) (piece t i r (head_of w t left) ∷ tail w i r (sub binary64 left (head_of w t left))) []

-- c whole periods if c is at least 1, and the remainder by % goes on
unfoldable pub whole_periods : Window → Float → ℕ → Float → Float → Float → List Event
unfolding parts
whole_periods w t i r left c = cond (le one c) (whole w i r c ∷ parts w t i r (rem binary64 left (period w))) (parts w t i r left)

-- whether there is a stopping reset at all on the target: then no whole periods; 18 where their count is not finite
unfoldable pub infusion_pieces : Bool → Window → Float → ℕ → Float → Float → Result (List Event)
unfolding parts whole_periods floor_of
infusion_pieces true w t i r left = done (parts w t i r left)
infusion_pieces false w t i r left =
    let c = floor_of (div binary64 left (period w)) in
    unless (finite c) 18 (whole_periods w t i r left c)

-- the pieces of one event of the list es
unfoldable pub pieces : Window → List Event → Event → Result (List Event)
unfolding infusion_passes stop_of infusion_pieces stopping
pieces w es (Bolus t i a) = done (Bolus t i a ∷ [])
pieces w es (Infusion t i a d) =
    and_then (unless (infusion_passes t a d) 17 (stop_of (period w) t i (add binary64 t d) es))
    (λ stop. infusion_pieces (any (stopping i) es) w t i (div binary64 a d) (sub binary64 stop t))
pieces w es (Reset t i v o c) = done (Reset t i v o c ∷ [])

-- one event more, behind the list so far
unfoldable pub with_event : Window → List Event → Event → List Event → Result (List Event)
unfolding time_passes pieces count_passes
with_event w es e so_far =
    and_then (unless (time_passes w (time e)) 16 e)
    (λ _. and_then (pieces w es e) (λ ps. unless (count_passes w (so_far ++ ps)) 13 (so_far ++ ps)))

unfoldable pub with_events : Window → List Event → List Event → List Event → Result (List Event)
unfolding with_event
with_events w es [] so_far = done so_far
with_events w es (e ∷ rest) so_far = and_then (with_event w es e so_far) (λ d. with_events w es rest d)

-- a list that passes tests, or the number of the first that fails
abbrev pub passing : {A : Type 0} → Option ℕ → A → Result A
passing none a = done a
passing (some c) a = refused c

-- for n states
unfoldable pub fold : ℕ → Window → List Float → List Event → Result (List Event)
unfolding cycle_passes count_passes with_events validate
fold n w ss es =
    and_then (unless (cycle_passes w) 15 es)
    (λ es. and_then (unless (count_passes w es) 13 es)
    (λ es. and_then (with_events w es es []) (λ fs. passing (validate n w ss fs) fs)))
