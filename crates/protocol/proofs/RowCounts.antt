-- How many rows and advances: a run makes at most 4·events + samples + 2 rows, wherever it ends. One that reaches the end makes an advance
-- to each boundary behind the first
-- and to each reading. Assumes nothing.
use mathlib.Core.Path.{◌≡◌, refl, sym, ap, ap₂, ◌∙◌}
use Prim.Native.Nat.{ℕ, suc, ◌+◌, ◌-◌, ◌*◌, ◌≤◌, ◌<◌, zero-le}
use native.Mathlib.Nat.{le_refl, le_of_eq, le_trans, add_assoc, zero-add}
use native.Mathlib.Omega.{arith}
use mathlib.Core.Bool.{Bool, true, false, cond, ◌&&◌, ◌||◌}
use mathlib.Core.List.{List, [], ◌∷◌, ◌++◌, map}
use lib.Dec.{T}
use lib.ListN.{length, length-append, replicate}
use lib.Ieee.{Float, binary64, lt, eq}
use Rattle.binary64.specs.Doubles.{total_le}
use Rattle.binary64.specs.Sort.{insert_by, sort_by, firsts, firsts_from}
use Rattle.binary64.proofs.Units.{spot}
use Rattle.binary64.proofs.Order.{lt→spot, eq→spot, spot→eq, lt_transitive}
use Rattle.binary64.proofs.Sorted.{All, Chain}
use Rattle.protocol.specs.declared.Event.{Event}
use Rattle.protocol.specs.declared.Event.TheVariants.{Bolus, Infusion, Reset}
use Rattle.protocol.specs.declared.Window.{Window}
use Rattle.binary64.specs.Lists.{any, pick, filter, flat_map}
use Rattle.protocol.specs.Events.{instants, sorted_unique, boundary_times, boundaries, has_event, resets, boluses, inside}
use Rattle.protocol.specs.Prepare.{reckoned}
use Rattle.protocol.specs.Schedule.{Step, check, pre, post, apply, rates, reading, arrive, summed, marked, at_boundary, on_interval}
use Rattle.protocol.specs.Schedule.{following, from_first, schedule, row_count, total}
use Rattle.protocol.specs.Execute.{Propagator, State, Outcome, go, stop, run, begin, run_of}
use Rattle.protocol.specs.PlainRun.{Prepared, rows_left, advances_by}
use Rattle.protocol.proofs.ListLaws.{or_left, or_right, All-map, All-both}
use Rattle.protocol.proofs.Times.{Inner, good, Passed, passed, times_in, boundaries_in, boundaries_rise, readings_in, sorted_unique-all}
use Rattle.protocol.proofs.FirstStop.{stop_splits}
use Rattle.protocol.proofs.Effects.{leaves, rows_by, rows_all, run-left, stop-left}

-- ---- counts over a schedule
pub total-append : (f : Step → ℕ) (xs ys : List Step) → total f (xs ++ ys) ≡ total f xs + total f ys
total-append f [] ys = sym (zero-add (total f ys))
total-append f (x ∷ xs) ys = ap (◌+◌ (f x)) (total-append f xs ys) ∙ sym (add_assoc (f x) (total f xs) (total f ys))

abbrev advance_count : Step → ℕ
advance_count x = length (advances_by x)

rows_by_length : (advance : Propagator) (a : List Float) (x : Step) → length (rows_by advance a x) ≡ row_count x
rows_by_length advance a (check t) = refl
rows_by_length advance a (pre t) = refl
rows_by_length advance a (post t) = refl
rows_by_length advance a (apply t e) = refl
rows_by_length advance a (rates r) = refl
rows_by_length advance a (reading t r u) = refl
rows_by_length advance a (arrive t r u) = refl

rows-length : (advance : Propagator) (xs : List Step) (a : List Float) → length (rows_all advance a xs) ≡ total row_count xs
rows-length advance [] a = refl
rows-length advance (x ∷ xs) a = length-append (rows_by advance a x) (rows_all advance (leaves advance a x) xs)
    ∙ ap₂ ◌+◌ (rows_by_length advance a x) (rows-length advance xs (leaves advance a x))

advances-length : (xs : List Step) → length (flat_map advances_by xs) ≡ total advance_count xs
advances-length [] = refl
advances-length (x ∷ xs) = length-append (advances_by x) (flat_map advances_by xs) ∙ ap (◌+◌ (advance_count x)) (advances-length xs)

-- ---- rows that a run leaves, wherever it ends
part-total : (f : Step → ℕ) (xs done : List Step) (x : Step) (rest : List Step) → xs ≡ done ++ (x ∷ rest) → total f done ≤ total f xs
part-total f xs done x rest e =
    let p : total f xs ≡ total f done + (f x + total f rest) = ap (total f) e ∙ total-append f done (x ∷ rest) in
    omega arith

pub rows-most : (advance : Propagator) (budget : ℕ) (a : List Float) (xs : List Step) → length (rows_left (run advance budget (begin a) xs)) ≤ total row_count xs
rows-most advance budget a xs = on (run advance budget (begin a) xs) refl
  where
    on : (o : Outcome) → run advance budget (begin a) xs ≡ o → length (rows_left o) ≤ total row_count xs
    on (go z) e = le_of_eq (ap length (run-left advance budget xs (begin a) z e).rows ∙ rows-length advance xs a)
    on (stop c t z) e =
        let w = stop_splits advance budget xs (begin a) c t z e in
        let l = run-left advance budget w.ahead (begin a) w.left w.ran in
        let h = stop-left advance budget w.step w.left z c t w.refuses in
        le_trans (le_of_eq (ap length (h.0 ∙ l.rows) ∙ rows-length advance w.ahead a)) (part-total row_count xs w.ahead w.step w.rest w.parts)

-- ---- how many a schedule has
abbrev pub bit : Bool → ℕ
bit true = 1
bit false = 0

-- two rows at a boundary where an event or an infusion's end is, and one elsewhere
abbrev boundary_weight : List Event → List Float → ℕ
boundary_weight es [] = 0
boundary_weight es (b ∷ bs) = bit (has_event b es) + 1 + boundary_weight es bs

-- the times of the readings
abbrev pub readings_of : List Float → Float → List Float → List Float
readings_of ss t [] = []
readings_of ss t (u ∷ us) = inside t u ss ++ readings_of ss u us

abbrev pub readings_from : List Float → List Float → List Float
readings_from ss [] = []
readings_from ss (t ∷ ts) = readings_of ss t ts

total_applies : (t : Float) (es : List Event) → (total row_count (map (apply t) es) ≡ 0) × (total advance_count (map (apply t) es) ≡ 0)
total_applies t [] = (refl, refl)
total_applies t (e ∷ es) = (
  zero-add (total row_count (map (apply t) es))
      ∙ (total_applies t es).0,
  zero-add (total advance_count (map (apply t) es)) ∙ (total_applies t es).1,
)

total_boundary : (t : Float) (es : List Event) → (total row_count (at_boundary t es) ≡ bit (has_event t es) + 1) × (total advance_count (at_boundary t es) ≡ 0)
unfolding at_boundary
total_boundary t es = on (has_event t es)
  where
    xs : List Step
    xs = map (apply t) (resets t es ++ boluses t es)

    rows : total row_count (xs ++ (post t ∷ [])) ≡ 1
    rows = total-append row_count xs (post t ∷ []) ∙ ap (λ (k : ℕ). k + (1 + 0)) (total_applies t (resets t es ++ boluses t es)).0

    none : total advance_count (xs ++ (post t ∷ [])) ≡ 0
    none = total-append advance_count xs (post t ∷ []) ∙ ap (λ (k : ℕ). k + (0 + 0)) (total_applies t (resets t es ++ boluses t es)).1

    on : (b : Bool) → (0 + total row_count (pick b (pre t) [] ++ (xs ++ (post t ∷ []))) ≡ bit b + 1)
        × (0 + total advance_count (pick b (pre t) [] ++ (xs ++ (post t ∷ []))) ≡ 0)
    on true = (omega (arith, rows), omega (arith, none))
    on false = (omega (arith, rows), omega (arith, none))

total-readings : (f : Step → ℕ) (t : Float) (r : List Float) (us : List Float) (u : Float) → ((v : Float) → f (reading t r v) ≡ 1)
    → total f (map (reading t r) us ++ (arrive t r u ∷ [])) ≡ length us + f (arrive t r u)
total-readings f t r [] u h = omega arith
total-readings f t r (v ∷ vs) u h = omega (arith, h v, total-readings f t r vs u h)

total-interval : (t : Float) (r : List Float) (u : Float) (ss : List Float)
    → (total row_count (on_interval t r u ss) ≡ length (inside t u ss))
    × (total advance_count (on_interval t r u ss) ≡ length (inside t u ss) + 1)
unfolding on_interval
total-interval t r u ss = (
  omega (arith, total-readings row_count t r (inside t u ss) u (λ v. refl)),
  omega (arith, total-readings advance_count t r (inside t u ss) u (λ v. refl)),
)

total-following : (n : ℕ) (es : List Event) (ss : List Float) (ms : List Bool) (t : Float) (us : List Float)
    → (total row_count (following n es ss ms t us) ≡ boundary_weight es (t ∷ us) + length (readings_of ss t us))
    × (total advance_count (following n es ss ms t us) ≡ length us + length (readings_of ss t us))
unfolding following
total-following n es ss ms t [] = (omega (arith, (total_boundary t es).0), omega (arith, (total_boundary t es).1))
total-following n es ss ms t (u ∷ us) =
    let r = summed n t es (marked t es ms) in
    let tail = following n es ss (marked t es ms) u us in
    let l = length-append (inside t u ss) (readings_of ss u us) in
    let ih = total-following n es ss (marked t es ms) u us in (
      omega (
        arith,
        total-append row_count (at_boundary t es) (on_interval t r u ss ++ tail),
        total-append row_count (on_interval t r u ss) tail,
        (total_boundary t es).0,
        (total-interval t r u ss).0,
        ih.0,
        l,
      ),
      omega (
        arith,
        total-append advance_count (at_boundary t es) (on_interval t r u ss ++ tail),
        total-append advance_count (on_interval t r u ss) tail,
        (total_boundary t es).1,
        (total-interval t r u ss).1,
        ih.1,
        l,
      ),
    )

-- ---- how many that can be
abbrev pub count : {A : Type 0} → (A → Bool) → List A → ℕ
count p [] = 0
count p (x ∷ xs) = bit (p x) + count p xs

bit_or : (a b : Bool) → bit (a || b) ≤ bit a + bit b
bit_or true b = omega arith
bit_or false b = omega arith

count_or : (p q : Float → Bool) (xs : List Float) → count (λ (x : Float). p x || q x) xs ≤ count p xs + count q xs
count_or p q [] = zero-le
count_or p q (x ∷ xs) = omega (arith, bit_or (p x) (q x), count_or p q xs)

-- all pass
count-all : (p : Float → Bool) (xs : List Float) → All (λ (x : Float). T (p x)) xs → length xs ≤ count p xs
count-all p [] h = zero-le
count-all p (x ∷ xs) h = omega (arith, one (p x) h.0, count-all p xs h.1)
  where
    one : (b : Bool) → T b → 1 ≤ bit b
    one true t = omega arith
    one false t = absurd t

-- none passes
count_none : (p : Float → Bool) (xs : List Float) → All (λ (x : Float). T (p x) → ⊥) xs → count p xs ≡ 0
count_none p [] h = refl
count_none p (x ∷ xs) h = omega (arith, no (p x) h.0, count_none p xs h.1)
  where
    no : (b : Bool) → (T b → ⊥) → bit b ≡ 0
    no true f = absurd (f tt)
    no false f = refl

module _ (w : Window) where
  -- in a rising list all is behind the head
  pub behind : (t : Float) (us : List Float) → All (Inner w) (t ∷ us) → Chain lt (t ∷ us) → All (λ (u : Float). spot binary64 t < spot binary64 u) us
  behind t [] p c = tt
  behind t (u ∷ us) p c =
      let h : spot binary64 t < spot binary64 u = lt→spot binary64 t u (good p.0) (good p.1.0) c.0 in
      (h, All-map (λ (v : Float) (k : spot binary64 u < spot binary64 v). omega arith) us (behind u us p.1 c.1))

  count-one : (x : Float) (bs : List Float) → Inner w x → All (Inner w) bs → Chain lt bs → count (λ (b : Float). eq x b) bs ≤ 1
  count-one x [] g p c = omega arith
  count-one x (b ∷ bs) g p c = on (eq x b) (λ h. h) (count-one x bs g p.1 c.1)
    where
      none : T (eq x b) → (v : Float) → (spot binary64 b < spot binary64 v) × Inner w v → T (eq x v) → ⊥
      none h v k l =
          let i : spot binary64 x ≡ spot binary64 b = eq→spot binary64 x b (good g) (good p.0) h in
          let j : spot binary64 x ≡ spot binary64 v = eq→spot binary64 x v (good g) (good k.1) l in
          omega arith

      on : (d : Bool) → (T d → T (eq x b)) → count (λ (b : Float). eq x b) bs ≤ 1 → bit d + count (λ (b : Float). eq x b) bs ≤ 1
      on true f ih =
          omega (
            arith,
            count_none (λ (b : Float). eq x b) bs (All-map (none (f tt)) bs
                (All-both (λ (v : Float). spot binary64 b < spot binary64 v) (Inner w) bs (behind b bs p c) p.1)),
          )
      on false f ih = omega arith

  count-any : (xs bs : List Float) → All (Inner w) xs → All (Inner w) bs → Chain lt bs → count (λ (b : Float). any (λ (x : Float). eq x b) xs) bs ≤ length xs
  count-any [] bs g p c = le_of_eq (none bs)
    where
      none : (bs : List Float) → count (λ (b : Float). false) bs ≡ 0
      none [] = refl
      none (b ∷ bs) = omega (arith, none bs)
  count-any (x ∷ xs) bs g p c =
      omega (arith, count_or (λ (b : Float). eq x b) (λ (b : Float). any (λ (x : Float). eq x b) xs) bs, count-one x bs g.0 p c, count-any xs bs g.1 p c)

  weight_count : (es : List Event) (bs : List Float) → boundary_weight es bs ≡ count (λ (b : Float). has_event b es) bs + length bs
  weight_count es [] = refl
  weight_count es (b ∷ bs) = omega (arith, weight_count es bs)

  -- each boundary is level with one that is given
  level_self : (x : Float) → Inner w x → T (eq x x)
  level_self x p = spot→eq binary64 x x (good p) (good p) refl

  levels : (xs : List Float) → All (Inner w) xs → All (λ (b : Float). T (any (λ (x : Float). eq x b) xs)) xs
  levels [] p = tt
  levels (x ∷ xs) p = (
    or_left (eq x x) (any (λ (y : Float). eq y x) xs) (level_self x p.0),
    All-map (λ (b : Float) (h : T (any (λ (y : Float). eq y b) xs)). or_right (eq x b) (any (λ (y : Float). eq y b) xs) h) xs
        (levels xs p.1),
  )

  weight_most : (start end : Float) (es : List Event) (bs : List Float) → All (Inner w) (boundary_times start end es) → All (Inner w) bs → Chain lt bs
      → All (λ (b : Float). T (any (λ (x : Float). eq x b) (boundary_times start end es))) bs → boundary_weight es bs ≤ 2 + 2 * length (flat_map instants es)
  weight_most start end es bs g p c l =
      omega (
        arith,
        weight_count es bs,
        count-all (λ (b : Float). any (λ (x : Float). eq x b) (boundary_times start end es)) bs l,
        count_or (λ (b : Float). eq start b) (λ (b : Float). eq end b || has_event b es) bs,
        count_or (λ (b : Float). eq end b) (λ (b : Float). has_event b es) bs,
        count-one start bs g.0 p c,
        count-one end bs g.1.0 p c,
        count-any (flat_map instants es) bs g.1.1 p c,
      )

pub instants-most : (es : List Event) → length (flat_map instants es) ≤ 2 * length es
instants-most [] = zero-le
instants-most (e ∷ es) = omega (arith, length-append (instants e) (flat_map instants es), two e, instants-most es)
  where
    two : (e : Event) → length (instants e) ≤ 2
    two (Bolus t i a) = omega arith
    two (Infusion t i a d) = omega arith
    two (Reset t i v o c) = omega arith

-- ---- readings: at most as many as samples
pub length-filter : (p : Float → Bool) (xs : List Float) → length (filter p xs) ≡ count p xs
length-filter p [] = refl
length-filter p (x ∷ xs) = on (p x) (length-filter p xs)
  where
    on : (b : Bool) → length (filter p xs) ≡ count p xs → length (pick b x (filter p xs)) ≡ bit b + count p xs
    on true h = omega arith
    on false h = omega arith

count_most : (p : Float → Bool) (xs : List Float) → count p xs ≤ length xs
count_most p [] = zero-le
count_most p (x ∷ xs) = omega (arith, one (p x), count_most p xs)
  where
    one : (b : Bool) → bit b ≤ 1
    one true = omega arith
    one false = omega arith

module _ (w : Window) where
  -- a sample is in one of the two at most
  apart : (t u s : Float) → Inner w t → Inner w u → Inner w s → T (lt t u) → bit (lt t s && lt s u) + bit (lt u s) ≤ bit (lt t s)
  apart t u s p q r l = on (lt t s) (lt s u) (lt u s) later never
    where
      later : T (lt u s) → T (lt t s)
      later h = lt_transitive binary64 t u s (good p) (good q) (good r) l h

      never : T (lt u s) → T (lt s u) → ⊥
      never h k =
          let i : spot binary64 u < spot binary64 s = lt→spot binary64 u s (good q) (good r) h in
          let j : spot binary64 s < spot binary64 u = lt→spot binary64 s u (good r) (good q) k in
          omega arith

      on : (a b c : Bool) → (T c → T a) → (T c → T b → ⊥) → bit (a && b) + bit c ≤ bit a
      on true true true f g = absurd (g tt tt)
      on true true false f g = omega arith
      on true false true f g = omega arith
      on true false false f g = omega arith
      on false b true f g = absurd (f tt)
      on false b false f g = omega arith

  apart_all : (t u : Float) (ss : List Float) → Inner w t → Inner w u → T (lt t u) → All (Inner w) ss
      → count (λ (s : Float). lt t s && lt s u) ss + count (λ (s : Float). lt u s) ss ≤ count (λ (s : Float). lt t s) ss
  apart_all t u [] p q l h = zero-le
  apart_all t u (s ∷ ss) p q l h = omega (arith, apart t u s p q h.0 l, apart_all t u ss p q l h.1)

  readings-most : (ss : List Float) (t : Float) (us : List Float) → All (Inner w) ss → All (Inner w) (t ∷ us) → Chain lt (t ∷ us)
      → length (readings_of ss t us) ≤ count (λ (s : Float). lt t s) ss
  readings-most ss t [] h p c = zero-le
  readings-most ss t (u ∷ us) h p c =
      omega (
        arith,
        length-append (inside t u ss) (readings_of ss u us),
        length-filter (λ (s : Float). lt t s && lt s u) ss,
        apart_all t u ss p.0 p.1.0 c.0 h,
        readings-most ss u us h p.1 c.1,
      )

-- ---- putting in order makes no list longer
length_insert : (x : Float) (ys : List Float) → length (insert_by total_le x ys) ≡ suc (length ys)
unfolding insert_by
length_insert x [] = refl
length_insert x (y ∷ ys) = on (total_le x y) (length_insert x ys)
  where
    on : (b : Bool) → length (insert_by total_le x ys) ≡ suc (length ys) → length (cond b (x ∷ y ∷ ys) (y ∷ insert_by total_le x ys)) ≡ suc (suc (length ys))
    on true h = refl
    on false h = ap suc h

length_sort : (xs : List Float) → length (sort_by total_le xs) ≡ length xs
unfolding sort_by
length_sort [] = refl
length_sort (x ∷ xs) = length_insert x (sort_by total_le xs) ∙ ap suc (length_sort xs)

length-firsts_from : (x : Float) (ys : List Float) → length (firsts_from eq x ys) ≤ suc (length ys)
unfolding firsts_from
length-firsts_from x [] = le_refl 1
length-firsts_from x (y ∷ ys) = on (eq x y) (length-firsts_from x ys) (length-firsts_from y ys)
  where
    on : (b : Bool) → length (firsts_from eq x ys) ≤ suc (length ys) → length (firsts_from eq y ys) ≤ suc (length ys)
        → length (cond b (firsts_from eq x ys) (x ∷ firsts_from eq y ys)) ≤ suc (suc (length ys))
    on true h k = omega arith
    on false h k = omega arith

pub length-sorted_unique : (xs : List Float) → length (sorted_unique xs) ≤ length xs
unfolding sorted_unique firsts
length-sorted_unique xs = le_trans (on (sort_by total_le xs)) (le_of_eq (length_sort xs))
  where
    on : (ys : List Float) → length (firsts eq ys) ≤ length ys
    on [] = zero-le
    on (y ∷ ys) = length-firsts_from y ys

-- ---- the two claims
unfoldable pub readings : Window → List Float → List Event → List Float
readings w ss es = readings_from (sorted_unique ss) (boundaries w es)

-- the rows that a run makes are within the reckoned rows, wherever it ends
pub schedule-within : (n : ℕ) (w : Window) (ss : List Float) (es : List Event) → Prepared n w ss es → total row_count (schedule n w ss es) ≤ reckoned ss es
unfolding schedule boundaries
schedule-within n w ss es g = on (boundaries w es) (boundaries_in k) (boundaries_rise k)
    (sorted_unique-all (λ (b : Float). T (any (λ (x : Float). eq x b) (boundary_times w.start w.end es)))
    (boundary_times w.start w.end es) (levels w (boundary_times w.start w.end es) (times_in k)))
  where
    k : Passed w ss es
    k = passed g

    on : (bs : List Float) → All (Inner w) bs → Chain lt bs
        → All (λ (b : Float). T (any (λ (x : Float). eq x b) (boundary_times w.start w.end es))) bs
        → total row_count (from_first n es (sorted_unique ss) bs) ≤ reckoned ss es
    on [] p c l = zero-le
    on (t ∷ ts) p c l =
        omega (
          arith,
          (total-following n es (sorted_unique ss) (replicate (length es) false) t ts).0,
          weight_most w w.start w.end es (t ∷ ts) (times_in k) p c l,
          instants-most es,
          readings-most w (sorted_unique ss) t ts (readings_in k) p c,
          count_most (λ (s : Float). lt t s) (sorted_unique ss),
          length-sorted_unique ss,
        )

pub rows-within : (advance : Propagator) (n : ℕ) (w : Window) (ss : List Float) (es : List Event) → Prepared n w ss es → (a : List Float)
    → length (rows_left (run_of advance n w ss es a)) ≤ reckoned ss es
unfolding run_of
rows-within advance n w ss es g a = le_trans (rows-most advance w.propagations a (schedule n w ss es)) (schedule-within n w ss es g)

-- a run that reaches the end makes an advance to each boundary behind the first and to each reading
pub advances-made : (advance : Propagator) (n : ℕ) (w : Window) (ss : List Float) (es : List Event) (a : List Float) (z : State)
    → run_of advance n w ss es a ≡ go z
    → (z.advances ≡ flat_map advances_by (schedule n w ss es)) × (length z.advances ≡ length (boundaries w es) - 1 + length (readings w ss es))
unfolding run_of schedule readings
advances-made advance n w ss es a z e = (m, ap length m ∙ advances-length (schedule n w ss es) ∙ on (boundaries w es))
  where
    m : z.advances ≡ flat_map advances_by (schedule n w ss es)
    m = (run-left advance w.propagations (schedule n w ss es) (begin a) z e).advances

    on : (bs : List Float) → total advance_count (from_first n es (sorted_unique ss) bs) ≡ length bs - 1 + length (readings_from (sorted_unique ss) bs)
    on [] = refl
    on (t ∷ ts) = omega (arith, (total-following n es (sorted_unique ss) (replicate (length es) false) t ts).1)
