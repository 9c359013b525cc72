-- The loop over boundaries: what has run so far, and what is left of the schedule.
use mathlib.Core.Path.{◌≡◌, refl, sym, ap, ◌∙◌, subst}
use mathlib.Core.Bool.{Bool, false}
use mathlib.Core.List.{List, [], ◌∷◌, ◌++◌, append_assoc}
use Prim.Native.Nat.{ℕ, suc, ◌+◌, ◌-◌, ◌<◌, ◌≤◌, min}
use native.Mathlib.Numerals.{add-one}
use native.Mathlib.Omega.{arith}
use lib.ListN.{length, get_or, drop, take, replicate}
use lib.Seq.{drop-cons, take_all}
use Rattle.std.proofs.lemmas.List.{take-replicate}
use lib.Ieee.{Float, nan}
use Rattle.limits.specs.Limits.{most_events}
use Rattle.protocol.specs.Schedule.{Step, summed, marked, at_boundary, on_interval, following, from_first}
use Rattle.protocol.specs.Execute.{Propagator}
use Rattle.protocol.specs.declared.Event.{Event}
use Rattle.rows.specs.Written.{Cells}
use Rattle.std.specs.Prelude.{Ok, Err, Result}
use Rattle.std.proofs.Common.{drop_of_length-le, not-suc-le-zero}
use Rattle.rows.specs.Standing.{Ran, Fits}
use Rattle.rows.specs.declared.Progress.{Progress}
use Rattle.rows.specs.declared.Stopped.{Stopped}
use Rattle.rows.proofs.Parts.{ran-nothing, ran-stops, ran_then, fits_first, fits_then}

-- what is left from boundary b on, with the marks ms
abbrev pub left_of : ℕ → List Event → List Float → List Float → List Bool → ℕ → List Step
left_of n es ss bs ms b = following n es ss ms (get_or bs b nan) (drop (suc b) bs)

module _ (advance : Propagator) (n : ℕ) (es : List Event) (ss bs : List Float) (start : Progress) (old : Cells) where
  -- the part ahead has run, the rest is left and has room
  pub record Going (ms : List Bool) (p : Progress) (c : Cells) (b : ℕ) : Type 0 where
    pub ahead : List Step
    pub whole : ahead ++ left_of n es ss bs ms b ≡ from_first n es ss bs
    pub ran : Ran advance n start ahead old (Ok p) c
    pub room : Fits n p (left_of n es ss bs ms b) c

  pub going_start : {ms : List Bool} → 1 ≤ length bs → ms ≡ replicate (length es) false
      → Fits n start (from_first n es ss bs) old → Going ms start old 0
  unfolding from_first
  going_start {ms} h m f = record {
    ahead = [];
    whole = same;
    ran = ran-nothing start old;
    room = subst (λ (xs : List Step). Fits n start xs old) (sym same) f;
  }
    where
      first : (bs : List Float) → 1 ≤ length bs → left_of n es ss bs (replicate (length es) false) 0 ≡ from_first n es ss bs
      first [] h = absurd (none h)
        where
          none : 1 ≤ 0 → ⊥
          none h = omega arith
      first (t ∷ ts) h = refl

      same : left_of n es ss bs ms 0 ≡ from_first n es ss bs
      same = rw m (first bs h)

  -- the last boundary
  at_last : (ms : List Bool) (b : ℕ) → length bs ≤ suc b → left_of n es ss bs ms b ≡ at_boundary (get_or bs b nan) es
  unfolding following
  at_last ms b h = rw (drop_of_length-le bs {i = suc b} h)

  -- a boundary with another behind it
  abbrev interval : List Bool → ℕ → List Step
  interval ms b = on_interval (get_or bs b nan) (summed n (get_or bs b nan) es (marked (get_or bs b nan) es ms)) (get_or bs (suc b) nan) ss

  at_next : (ms : List Bool) (b : ℕ) → suc b < length bs
      → left_of n es ss bs ms b ≡ at_boundary (get_or bs b nan) es ++ (interval ms b ++ left_of n es ss bs (marked (get_or bs b nan) es ms) (suc b))
  unfolding following
  at_next ms b h = rw (drop-cons bs (suc b) nan h)

  module _ (ms : List Bool) (p : Progress) (c : Cells) (b : ℕ) (g : Going ms p c b) where
    pub end-room : length bs ≤ suc b → Fits n p (at_boundary (get_or bs b nan) es) c
    end-room h = subst (λ (xs : List Step). Fits n p xs c) (at_last ms b h) g.room

    -- the block at the last boundary
    pub end-ran : {r : Result Progress Stopped} {d : Cells} → length bs ≤ suc b → Ran advance n p (at_boundary (get_or bs b nan) es) c r d
        → Ran advance n start (from_first n es ss bs) old r d
    end-ran {r} {d} h k = subst (λ (xs : List Step). Ran advance n start xs old r d) (ap (λ (xs : List Step). g.ahead ++ xs)
        (sym (at_last ms b h)) ∙ g.whole) (ran_then g.ran k)

    module _ (h : suc b < length bs) where
      abbrev rest : List Step
      rest = interval ms b ++ left_of n es ss bs (marked (get_or bs b nan) es ms) (suc b)

      room_here : Fits n p (at_boundary (get_or bs b nan) es ++ rest) c
      room_here = subst (λ (xs : List Step). Fits n p xs c) (at_next ms b h) g.room

      whole_here : (g.ahead ++ at_boundary (get_or bs b nan) es) ++ rest ≡ from_first n es ss bs
      whole_here = append_assoc g.ahead (at_boundary (get_or bs b nan) es) rest ∙ ap (λ (xs : List Step). g.ahead ++ xs) (sym (at_next ms b h)) ∙ g.whole

      pub here_room : Fits n p (at_boundary (get_or bs b nan) es) c
      here_room = fits_first (at_boundary (get_or bs b nan) es) rest room_here

      pub here_stopped : {z : Stopped} {d : Cells} → Ran advance n p (at_boundary (get_or bs b nan) es) c (Err z) d
          → Ran advance n start (from_first n es ss bs) old (Err z) d
      here_stopped {z} {d} r = subst (λ (xs : List Step). Ran advance n start xs old (Err z) d) whole_here (ran-stops rest (ran_then g.ran r))

      module _ {q : Progress} {d : Cells} (r : Ran advance n p (at_boundary (get_or bs b nan) es) c (Ok q) d) where
        so_far : Ran advance n start (g.ahead ++ at_boundary (get_or bs b nan) es) old (Ok q) d
        so_far = ran_then g.ran r

        next-room : Fits n q (interval ms b) d
        next-room =
            fits_first (interval ms b) (left_of n es ss bs (marked (get_or bs b nan) es ms) (suc b))
            (fits_then (at_boundary (get_or bs b nan) es) rest room_here r)

        whole-next : ((g.ahead ++ at_boundary (get_or bs b nan) es) ++ interval ms b)
            ++ left_of n es ss bs (marked (get_or bs b nan) es ms) (suc b) ≡ from_first n es ss bs
        whole-next =
            append_assoc (g.ahead ++ at_boundary (get_or bs b nan) es) (interval ms b)
            (left_of n es ss bs (marked (get_or bs b nan) es ms) (suc b)) ∙ whole_here

        next-stopped : {z : Stopped} {e : Cells} → Ran advance n q (interval ms b) d (Err z) e → Ran advance n start (from_first n es ss bs) old (Err z) e
        next-stopped {z} {e} k =
            subst (λ (xs : List Step). Ran advance n start xs old (Err z) e) whole-next (ran-stops
            (left_of n es ss bs (marked (get_or bs b nan) es ms) (suc b)) (ran_then so_far k))

        next_going : {u : Progress} {e : Cells} → Ran advance n q (interval ms b) d (Ok u) e → {ns : List Bool} → ns ≡ marked (get_or bs b nan) es ms
            → Going ns u e (b + 1)
        next_going k m = rw (m, add-one) (record {
          ahead = (g.ahead ++ at_boundary (get_or bs b nan) es) ++ interval ms b;
          whole = whole-next;
          ran = ran_then so_far k;
          room =
              fits_then (interval ms b) (left_of n es ss bs (marked (get_or bs b nan) es ms) (suc b))
              (fits_then (at_boundary (get_or bs b nan) es) rest room_here r) k;
        })

        -- the interval as the code has it: its rates summed over the marks ns, its end at b + 1
        module _ {ns : List Bool} {xs : List Float} (m : ns ≡ marked (get_or bs b nan) es ms) (f : xs ≡ summed n (get_or bs b nan) es ns) where
          as_code : interval ms b ≡ on_interval (get_or bs b nan) xs (get_or bs (b + 1) nan) ss
          as_code = rw (f, m, add-one)

          pub code_room : Fits n q (on_interval (get_or bs b nan) xs (get_or bs (b + 1) nan) ss) d
          code_room = subst (λ (ys : List Step). Fits n q ys d) as_code next-room

          as_interval : {x : Result Progress Stopped} {e : Cells} → Ran advance n q (on_interval (get_or bs b nan) xs (get_or bs (b + 1) nan) ss) d x e
              → Ran advance n q (interval ms b) d x e
          as_interval {x} {e} k = subst (λ (ys : List Step). Ran advance n q ys d x e) (sym as_code) k

          pub code_stopped : {z : Stopped} {e : Cells} → Ran advance n q (on_interval (get_or bs b nan) xs (get_or bs (b + 1) nan) ss) d (Err z) e
              → Ran advance n start (from_first n es ss bs) old (Err z) e
          code_stopped k = next-stopped (as_interval k)

          pub code_going : {u : Progress} {e : Cells} → Ran advance n q (on_interval (get_or bs b nan) xs (get_or bs (b + 1) nan) ss) d (Ok u) e
              → Going ns u e (b + 1)
          code_going k = next_going (as_interval k) m

-- no event is marked
pub marks_none : (es : List Event) → length es ≤ most_events → take (length es) (replicate most_events false) ≡ replicate (length es) false
marks_none es h = take-replicate (length es) most_events false h

-- ---- the boundaries as pairs of neighbours
abbrev pub behind : List Float → List Float
behind bs = take (length bs - 1) (drop 1 bs)

whole_behind : (x : Float) (bs : List Float) → behind (x ∷ bs) ≡ bs
whole_behind x bs = take_all (length (x ∷ bs) - 1) bs (omega arith)

pub one_behind : (bs : List Float) (k : ℕ) → k < length (behind bs) → (suc k < length bs) × (get_or (behind bs) k nan ≡ get_or bs (k + 1) nan)
one_behind [] k h = absurd (not-suc-le-zero h)
one_behind (x ∷ bs) k h =
    let e = whole_behind x bs in
    let l : length (behind (x ∷ bs)) ≡ length bs = ap length e in
    (omega (arith, l), ap (λ (ys : List Float). get_or ys k nan) e ∙ rw add-one refl)

pub pairs-count : (bs : List Float) (k : ℕ) → 1 ≤ length bs → k ≡ min (length bs) (length (behind bs)) → length bs - 1 ≡ k
pairs-count [] k h e = absurd (not-suc-le-zero h)
pairs-count (x ∷ bs) k h e =
    let l : length (behind (x ∷ bs)) ≡ length bs = ap length (whole_behind x bs) in
    omega (arith, e, l)
