-- How many steps a schedule has, so that its advances can be counted.
use mathlib.Core.Path.{◌≡◌, refl, ap, ◌∙◌}
use Prim.Native.Nat.{ℕ, suc, ◌+◌, ◌*◌, ◌≤◌}
use native.Mathlib.Nat.{suc-mul}
use native.Mathlib.Omega.{arith}
use mathlib.Core.Bool.{Bool, true, false, cond, ◌&&◌}
use mathlib.Core.List.{List, [], ◌∷◌, ◌++◌, map}
use lib.ListN.{length, length-append, length-map, replicate}
use lib.Ieee.{Float, lt}
use Rattle.binary64.specs.Lists.{pick, filter}
use Rattle.binary64.specs.Sort.{insert_by, sort_by}
use Rattle.protocol.specs.declared.Event.{Event}
use Rattle.protocol.specs.Events.{has_event, is_reset, is_bolus, by_order, resets, boluses, inside}
use Rattle.protocol.specs.Schedule.{pre, post, apply, reading, arrive, at_boundary, on_interval, summed, marked, following, from_first}

filter-most : {A : Type 0} (p : A → Bool) (xs : List A) → length (filter p xs) ≤ length xs
filter-most p [] = omega arith
filter-most p (x ∷ xs) = on (p x) (filter-most p xs)
  where
    on : (b : Bool) → length (filter p xs) ≤ length xs → length (pick b x (filter p xs)) ≤ suc (length xs)
    on true h = omega arith
    on false h = omega arith

module _ {A : Type 0} (r : A → A → Bool) where
  insert_length : (x : A) (ys : List A) → length (insert_by r x ys) ≡ suc (length ys)
  unfolding insert_by
  insert_length x [] = refl
  insert_length x (y ∷ ys) = on (r x y) (insert_length x ys)
    where
      on : (b : Bool) → length (insert_by r x ys) ≡ suc (length ys) → length (cond b (x ∷ y ∷ ys) (y ∷ insert_by r x ys)) ≡ suc (suc (length ys))
      on true h = refl
      on false h = ap suc h

  sort_length : (xs : List A) → length (sort_by r xs) ≡ length xs
  unfolding sort_by
  sort_length [] = refl
  sort_length (x ∷ xs) = insert_length x (sort_by r xs) ∙ ap suc (sort_length xs)

pub boundary_most : (t : Float) (es : List Event) → length (at_boundary t es) ≤ 3 + (length es + length es)
unfolding at_boundary
boundary_most t es =
    let a = filter-most (is_reset t) es in
    let b = filter-most (is_bolus t) es in
    let s = sort_length by_order (filter (is_reset t) es) in
    let j = length-append (resets t es) (boluses t es) in
    let m = length-map (resets t es ++ boluses t es) (apply t) in
    let k = length-append (map (apply t) (resets t es ++ boluses t es)) (post t ∷ []) in
    let p = on (has_event t es) in
    omega (arith, length-append (pick (has_event t es) (pre t) []) (map (apply t) (resets t es ++ boluses t es) ++ (post t ∷ [])))
  where
    on : (b : Bool) → length (pick b (pre t) []) ≤ 1
    on true = omega arith
    on false = omega arith

pub interval-most : (t : Float) (r : List Float) (u : Float) (ss : List Float) → length (on_interval t r u ss) ≤ 2 + length ss
unfolding on_interval
interval-most t r u ss =
    let a = filter-most (λ (s : Float). lt t s && lt s u) ss in
    let m = length-map (inside t u ss) (reading t r) in
    omega (arith, length-append (map (reading t r) (inside t u ss)) (arrive t r u ∷ []))

-- 5 steps at and behind a boundary, two for each event, one for each sample
abbrev pub most : List Event → List Float → ℕ
most es ss = 5 + (length es + length es) + length ss

following-most : (n : ℕ) (es : List Event) (ss : List Float) (ms : List Bool) (t : Float) (us : List Float)
    → length (following n es ss ms t us) ≤ suc (length us) * most es ss
unfolding following
following-most n es ss ms t [] = omega (arith, boundary_most t es, suc-mul 0 (most es ss))
following-most n es ss ms t (u ∷ us) =
    let a = boundary_most t es in
    let b = interval-most t (summed n t es (marked t es ms)) u ss in
    let c = following-most n es ss (marked t es ms) u us in
    let j = length-append (at_boundary t es) (on_interval t (summed n t es (marked t es ms)) u ss ++ following n es ss (marked t es ms) u us) in
    let k = length-append (on_interval t (summed n t es (marked t es ms)) u ss) (following n es ss (marked t es ms) u us) in
    omega (arith, suc-mul (suc (length us)) (most es ss))

pub schedule-most : (n : ℕ) (es : List Event) (ss bounds : List Float) → length (from_first n es ss bounds) ≤ length bounds * most es ss
unfolding from_first
schedule-most n es ss [] = omega arith
schedule-most n es ss (t ∷ ts) = following-most n es ss (replicate (length es) false) t ts
