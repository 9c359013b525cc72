-- The whole schedule: its times are doubles, and it has room in the reckoned rows.
use mathlib.Core.Path.{◌≡◌, refl}
use mathlib.Core.Bool.{Bool, true, false, cond}
use mathlib.Core.List.{List, [], ◌∷◌, ◌++◌}
use mathlib.Core.Option.{none}
use Prim.Native.Nat.{ℕ, ◌*◌, ◌≤◌}
use native.Mathlib.Nat.{le_refl, mul-le-mul_right}
use native.Mathlib.Omega.{arith}
use lib.Dec.{T}
use lib.ListN.{length}
use lib.Ieee.{Float, binary64, fits, eq}
use Rattle.limits.specs.Limits.{states, most_events, most_samples, most_boundaries}
use Rattle.binary64.specs.Doubles.{total_le}
use Rattle.binary64.specs.Lists.{all, flat_map}
use Rattle.binary64.specs.Sort.{insert_by, sort_by, firsts_from, firsts}
use Rattle.protocol.specs.declared.Event.{Event}
use Rattle.protocol.specs.declared.Event.TheVariants.{Bolus, Infusion, Reset}
use Rattle.protocol.specs.declared.Window.{Window}
use Rattle.protocol.specs.Events.{time, instants, boundary_times, boundaries, sorted_unique}
use Rattle.protocol.specs.Prepare.{reckoned, prepare}
use Rattle.protocol.specs.PlainRun.{Prepared}
use Rattle.protocol.specs.Schedule.{schedule}
use Rattle.protocol.proofs.ListLaws.{both, and_T}
use Rattle.protocol.proofs.RowCounts.{schedule-within, instants-most, length-sorted_unique}
use Rattle.rows.specs.Written.{Cells, RoomForRows}
use Rattle.rows.specs.Standing.{Fits}
use Rattle.rows.proofs.Lengths.{most, schedule-most}
use Rattle.rows.proofs.Puts.{room_less}
use Rattle.simulation_matrix.specs.Started.{started}

-- ---- the times are doubles
times_of : (es : List Event) → T (all (fits binary64) (flat_map instants es)) → T (all (λ (e : Event). fits binary64 (time e)) es)
times_of [] h = tt
times_of (e ∷ es) h = let w = on e h in and_T (fits binary64 (time e)) (all (λ (e : Event). fits binary64 (time e)) es) w.0 (times_of es w.1)
  where
    on : (e : Event) → T (all (fits binary64) (instants e ++ flat_map instants es)) → T (fits binary64 (time e)) × T (all (fits binary64) (flat_map instants es))
    on (Bolus t i a) h = both (fits binary64 t) _ h
    on (Infusion t i a d) h = let w = both (fits binary64 t) _ h in (w.0, (both (fits binary64 _) (all (fits binary64) (flat_map instants es)) w.1).1)
    on (Reset t i v o c) h = both (fits binary64 t) _ h

pub prepared_of : (n : ℕ) (w : Window) (ss : List Float) (es : List Event) → T (all (fits binary64) ss)
    → T (all (fits binary64) (boundary_times w.start w.end es)) → prepare n w ss es ≡ none → Prepared n w ss es
prepared_of n w ss es s b p =
    let v = both (fits binary64 w.start) _ b in
    let u = both (fits binary64 w.end) _ v.1 in
    record { start_fits = v.0; end_fits = u.0; samples_fit = s; times_fit = times_of es u.1; passes = p }

-- ---- room
pub some_boundary : (w : Window) (es : List Event) → 1 ≤ length (boundaries w es)
unfolding boundaries sorted_unique firsts sort_by insert_by firsts_from
some_boundary w es = on (sort_by total_le (boundary_times w.start w.end es)) (more w.start (sort_by total_le (w.end ∷ flat_map instants es)))
  where
    more : (x : Float) (ys : List Float) → 1 ≤ length (insert_by total_le x ys)
    more x [] = le_refl 1
    more x (y ∷ ys) = cases (total_le x y)
      where
        cases : (b : Bool) → 1 ≤ length (cond b (x ∷ y ∷ ys) (y ∷ insert_by total_le x ys))
        cases true = omega arith
        cases false = omega arith

    from : (x : Float) (ys : List Float) → 1 ≤ length (firsts_from eq x ys)
    from x [] = le_refl 1
    from x (y ∷ ys) = cases (eq x y) (from x ys)
      where
        cases : (b : Bool) → 1 ≤ length (firsts_from eq x ys) → 1 ≤ length (cond b (firsts_from eq x ys) (x ∷ firsts_from eq y ys))
        cases true h = h
        cases false h = omega arith

    on : (ys : List Float) → 1 ≤ length ys → 1 ≤ length (firsts eq ys)
    on [] h = h
    on (y ∷ ys) h = from y ys

pub schedule_fits : (n : ℕ) (w : Window) (ss : List Float) (es : List Event) (a : List Float) (c : Cells) → n ≤ states
    → length es ≤ most_events → length ss ≤ most_samples → Prepared n w ss es → RoomForRows n (reckoned ss es) c
    → Fits n (started a w.propagations) (schedule n w ss es) c
unfolding schedule boundaries
schedule_fits n w ss es a c s e l p r = record {
  states = s;
  room = room_less n _ (reckoned ss es) c c (omega (arith, schedule-within n w ss es p)) (record { times = refl; sides = refl; values = refl }) r;
  few =
      let b = length-sorted_unique (boundary_times w.start w.end es) in
      let i = instants-most es in
      let k = length-sorted_unique ss in
      let m = schedule-most n es (sorted_unique ss) (boundaries w es) in
      let g : length (boundaries w es) ≤ most_boundaries = omega arith in
      let h : most es (sorted_unique ss) ≤ 645 = omega arith in
      let t : length (boundaries w es) * most es (sorted_unique ss) ≤ most_boundaries * most es (sorted_unique ss) = mul-le-mul_right
      (most es (sorted_unique ss)) g in
      omega arith;
}
