-- The readings of a run are as many as the distinct samples that stand at no boundary. Assumes nothing.
use mathlib.Core.Path.{◌≡◌, refl, sym, ap, ap₂, ◌∙◌, subst}
use Prim.Native.Nat.{ℕ, ◌+◌, ◌≤◌, ◌<◌}
use native.Mathlib.Omega.{arith}
use native.Mathlib.Nat.{le_refl, le_trans, le_of_lt}
use mathlib.Core.Bool.{Bool, true, false, not, ◌&&◌, ◌||◌}
use mathlib.Core.List.{List, [], ◌∷◌}
use lib.Dec.{T}
use lib.ListN.{length, length-append}
use lib.Ieee.{Float, binary64, lt, eq}
use Rattle.binary64.proofs.Units.{spot, Good}
use Rattle.binary64.proofs.Order.{lt→spot, spot→lt, le→spot, eq→spot, spot→eq}
use Rattle.binary64.proofs.Sorted.{All, Chain}
use Rattle.protocol.specs.declared.Event.{Event}
use Rattle.protocol.specs.declared.Window.{Window}
use Rattle.binary64.specs.Lists.{any, filter}
use Rattle.protocol.specs.Events.{sorted_unique, boundary_times, boundaries, inside}
use Rattle.protocol.specs.PlainRun.{Prepared, between}
use Rattle.protocol.proofs.ListLaws.{All-map, All-both}
use Rattle.protocol.proofs.Times.{Inner, good, Passed, passed, times_in, boundaries_in, boundaries_rise, readings_in}
use Rattle.protocol.proofs.RowCounts.{bit, count, length-filter, behind, readings_of, readings_from, readings}
use Rattle.protocol.proofs.LastRow.{last_of, Covered, covered_below, before_last, sorted_unique_covers}

abbrev sum_of : (Float → ℕ) → List Float → ℕ
sum_of f [] = 0
sum_of f (s ∷ ss) = f s + sum_of f ss

-- in how many of the intervals a sample stands
abbrev reads_in : Float → List Float → Float → ℕ
reads_in t [] s = 0
reads_in t (u ∷ us) s = bit (lt t s && lt s u) + reads_in u us s

sum-zero : (ss : List Float) → sum_of (λ (s : Float). 0) ss ≡ 0
sum-zero [] = refl
sum-zero (s ∷ ss) = omega (arith, sum-zero ss)

sum-plus : (p : Float → Bool) (f : Float → ℕ) (ss : List Float) → count p ss + sum_of f ss ≡ sum_of (λ (s : Float). bit (p s) + f s) ss
sum-plus p f [] = refl
sum-plus p f (s ∷ ss) = omega (arith, sum-plus p f ss)

length-readings : (ss : List Float) (t : Float) (us : List Float) → length (readings_of ss t us) ≡ sum_of (reads_in t us) ss
length-readings ss t [] = sym (sum-zero ss)
length-readings ss t (u ∷ us) =
    length-append (inside t u ss) (readings_of ss u us) ∙ ap₂ ◌+◌ (length-filter (λ (s : Float). lt t s && lt s u) ss)
    (length-readings ss u us) ∙ sum-plus (λ (s : Float). lt t s && lt s u) (reads_in u us) ss

sum-count : (f : Float → ℕ) (p : Float → Bool) (ss : List Float) → All (λ (s : Float). f s ≡ bit (p s)) ss → sum_of f ss ≡ count p ss
sum-count f p [] h = refl
sum-count f p (s ∷ ss) h = omega (arith, h.0, sum-count f p ss h.1)

level : List Float → Float → Bool
level bs s = any (λ (b : Float). eq b s) bs

-- a is t < s, b is s < u, c is u < s, e is u == s, and l: s is level with one behind u
one_place : (a b c e l : Bool) → (T b → T c → ⊥) → (T b → T e → ⊥) → (T e → T c → ⊥) → ((T b → ⊥) → (T e → ⊥) → (T c → ⊥) → ⊥) → (T c → T a) → (T b → T l → ⊥)
    → bit (a && b) + bit (c && not l) ≡ bit (a && not (e || l))
one_place a true true e l bc be ec some ca bl = absurd (bc tt tt)
one_place a true false true l bc be ec some ca bl = absurd (be tt tt)
one_place a true false false true bc be ec some ca bl = absurd (bl tt tt)
one_place true true false false false bc be ec some ca bl = refl
one_place false true false false false bc be ec some ca bl = refl
one_place a false true true l bc be ec some ca bl = absurd (ec tt tt)
one_place true false true false true bc be ec some ca bl = refl
one_place true false true false false bc be ec some ca bl = refl
one_place false false true false l bc be ec some ca bl = absurd (ca tt)
one_place true false false true l bc be ec some ca bl = refl
one_place false false false true l bc be ec some ca bl = refl
one_place a false false false l bc be ec some ca bl = absurd (some (λ x. x) (λ x. x) (λ x. x))

module _ (w : Window) where
  none_level : (s : Float) (bs : List Float) → Inner w s → All (λ (b : Float). (spot binary64 s < spot binary64 b) × Inner w b) bs → T (level bs s) → ⊥
  unfolding level
  none_level s [] g h l = l
  none_level s (b ∷ bs) g h l = on (eq b s) (λ x. x) l (none_level s bs g h.1)
    where
      on : (d : Bool) → (T d → T (eq b s)) → T (d || any (λ (b : Float). eq b s) bs) → (T (any (λ (b : Float). eq b s) bs) → ⊥) → ⊥
      on true f l ih = let e : spot binary64 b ≡ spot binary64 s = eq→spot binary64 b s (good h.0.1) (good g) (f tt) in omega (arith, h.0.0)
      on false f l ih = ih l

  in_one : (s t : Float) (us : List Float) → Inner w s → All (Inner w) (t ∷ us) → Chain lt (t ∷ us)
      → spot binary64 s ≤ spot binary64 (last_of t us) → reads_in t us s ≡ bit (lt t s && not (level us s))
  unfolding level
  in_one s t [] g p c h = none (lt t s) (λ (l : T (lt t s)). no (lt→spot binary64 t s (good p.0) (good g) l))
    where
      no : spot binary64 t < spot binary64 s → ⊥
      no l = omega arith

      none : (a : Bool) → (T a → ⊥) → 0 ≡ bit (a && true)
      none true f = absurd (f tt)
      none false f = refl
  in_one s t (u ∷ us) g p c h =
      ap (λ (k : ℕ). bit (lt t s && lt s u) + k) (in_one s u us g p.1 c.1 h)
      ∙ one_place (lt t s) (lt s u) (lt u s) (eq u s) (level us s)
      (λ x y. omega (arith, su x, us' y)) (λ x y. omega (arith, su x, ue y)) (λ x y. omega (arith, ue x, us' y)) some
      (λ y. spot→lt binary64 t s T' S' (omega (arith, tu, us' y)))
      (λ (x : T (lt s u)) (y : T (level us s)). none_level s us g (All-both (λ (b : Float). spot binary64 s < spot binary64 b) (Inner w) us
      (All-map (λ (b : Float) (k : spot binary64 u < spot binary64 b). far b k x) us (behind w u us p.1 c.1)) p.1.1) y)
    where
      S' : Good binary64 s
      S' = good g

      T' : Good binary64 t
      T' = good p.0

      U' : Good binary64 u
      U' = good p.1.0

      tu : spot binary64 t < spot binary64 u
      tu = lt→spot binary64 t u T' U' c.0

      su : T (lt s u) → spot binary64 s < spot binary64 u
      su = lt→spot binary64 s u S' U'

      us' : T (lt u s) → spot binary64 u < spot binary64 s
      us' = lt→spot binary64 u s U' S'

      ue : T (eq u s) → spot binary64 u ≡ spot binary64 s
      ue = eq→spot binary64 u s U' S'

      far : (b : Float) → spot binary64 u < spot binary64 b → T (lt s u) → spot binary64 s < spot binary64 b
      far b k x = omega (arith, su x)

      three : (x y : ℕ) → (x < y → ⊥) → (y ≡ x → ⊥) → (y < x → ⊥) → ⊥
      three x y a b c = omega arith

      some : (T (lt s u) → ⊥) → (T (eq u s) → ⊥) → (T (lt u s) → ⊥) → ⊥
      some a b d =
          three (spot binary64 s) (spot binary64 u) (λ k. a (spot→lt binary64 s u S' U' k)) (λ k. b (spot→eq binary64 u s U' S' k))
          (λ k. d (spot→lt binary64 u s U' S' k))

  covered_above : (x : Float) (k : ℕ) (bs : List Float) → Inner w x → All (Inner w) bs → All (λ (b : Float). k ≤ spot binary64 b) bs
      → Covered bs x → k ≤ spot binary64 x
  covered_above x k [] p q h c = absurd c
  covered_above x k (b ∷ bs) p q h c = on (eq b x) (λ l. l) c (covered_above x k bs p q.1 h.1)
    where
      on : (d : Bool) → (T d → T (eq b x)) → T (d || any (λ (b : Float). eq b x) bs) → (Covered bs x → k ≤ spot binary64 x) → k ≤ spot binary64 x
      on true f c ih = subst (λ (m : ℕ). k ≤ m) (eq→spot binary64 b x (good q.0) (good p) (f tt)) h.0
      on false f c ih = ih c

  at_none : (s t : Float) (us : List Float) → Inner w s → All (Inner w) (t ∷ us) → Chain lt (t ∷ us) → spot binary64 t ≤ spot binary64 s
      → spot binary64 s ≤ spot binary64 (last_of t us) → reads_in t us s ≡ bit (not (level (t ∷ us) s))
  unfolding level
  at_none s t us g p c l h = in_one s t us g p c h ∙ on (lt t s) (eq t s) (level us s) apart one
    where
      apart : T (lt t s) → T (eq t s) → ⊥
      apart x y =
          let i : spot binary64 t < spot binary64 s = lt→spot binary64 t s (good p.0) (good g) x in
          let j : spot binary64 t ≡ spot binary64 s = eq→spot binary64 t s (good p.0) (good g) y in
          omega arith

      two : (x y : ℕ) → x ≤ y → (x < y → ⊥) → (x ≡ y → ⊥) → ⊥
      two x y a b c = omega arith

      one : (T (lt t s) → ⊥) → (T (eq t s) → ⊥) → ⊥
      one x y =
          two (spot binary64 t) (spot binary64 s) l (λ k. x (spot→lt binary64 t s (good p.0) (good g) k))
          (λ k. y (spot→eq binary64 t s (good p.0) (good g) k))

      on : (a e m : Bool) → (T a → T e → ⊥) → ((T a → ⊥) → (T e → ⊥) → ⊥) → bit (a && not m) ≡ bit (not (e || m))
      on true true m f k = absurd (f tt tt)
      on true false m f k = refl
      on false true m f k = refl
      on false false m f k = absurd (k (λ x. x) (λ x. x))

pub readings-between : {n : ℕ} (w : Window) (ss : List Float) (es : List Event) → Prepared n w ss es → length (readings w ss es) ≡ length (between w ss es)
unfolding readings boundaries level
readings-between w ss es h = on (boundaries w es) (boundaries_in k) (boundaries_rise k) covers.0 covers.1.0
  where
    k : Passed w ss es
    k = passed h

    covers : All (Covered (boundaries w es)) (boundary_times w.start w.end es)
    covers = sorted_unique_covers w (boundary_times w.start w.end es) (times_in k)

    on : (bs : List Float) → All (Inner w) bs → Chain lt bs → Covered bs w.start → Covered bs w.end
        → length (readings_from (sorted_unique ss) bs) ≡ length (filter (λ (s : Float). not (any (λ (b : Float). eq b s) bs))
        (sorted_unique ss))
    on [] p c a b = absurd a
    on (t ∷ ts) p c a b =
        length-readings (sorted_unique ss) t ts
        ∙ sum-count (reads_in t ts) (λ (s : Float). not (any (λ (b : Float). eq b s) (t ∷ ts))) (sorted_unique ss)
        (All-map each (sorted_unique ss) (readings_in k))
        ∙ sym (length-filter (λ (s : Float). not (any (λ (b : Float). eq b s) (t ∷ ts))) (sorted_unique ss))
      where
        low : spot binary64 t ≤ spot binary64 w.start
        low =
            covered_above w w.start (spot binary64 t) (t
            ∷ ts) k.start_in p (
              le_refl (spot binary64 t),
              All-map (λ (u : Float) (l : spot binary64 t < spot binary64 u). le_of_lt l) ts
                  (behind w t ts p c),
            ) a

        high : spot binary64 w.end ≤ spot binary64 (last_of t ts)
        high = covered_below w w.end (spot binary64 (last_of t ts)) (t ∷ ts) k.end_in p (before_last w t ts p c) b

        each : (s : Float) → Inner w s → reads_in t ts s ≡ bit (not (any (λ (b : Float). eq b s) (t ∷ ts)))
        each s g =
            at_none w s t ts g p c
            (le_trans low (le→spot binary64 w.start s (good k.start_in) (good g) g.from_start))
            (le_trans (le→spot binary64 s w.end (good g) (good k.end_in) g.to_end) high)
