-- Samples and budgets change nothing but the readings: two runs that reach the end and differ in these alone have the same boundary rows,
-- and readings at equal times (==) have
-- the same amounts. Assumes nothing.
use mathlib.Core.Path.{◌≡◌, refl, sym, ap, ap₂, ◌∙◌, subst}
use Prim.Native.Nat.{ℕ, ◌<◌}
use native.Mathlib.Omega.{arith}
use mathlib.Core.Bool.{Bool, true, false, cond, ◌&&◌}
use mathlib.Core.List.{List, [], ◌∷◌, ◌++◌, map, Memᴰ}
use lib.Dec.{T, ltb}
use lib.ListN.{length, replicate}
use lib.Ieee.{Float, binary64, sub, lt, eq}
use Rattle.binary64.proofs.Units.{spot, lt_spot}
use Rattle.binary64.proofs.Order.{lt→spot, eq→spot, lt_transitive, Real, real_good}
use Rattle.binary64.proofs.Differences.{sub_level}
use Rattle.binary64.proofs.Sorted.{All, Chain}
use Rattle.protocol.specs.declared.Event.{Event}
use Rattle.protocol.specs.declared.Window.{Window}
use Rattle.binary64.specs.Lists.{pick}
use Rattle.protocol.specs.Events.{sorted_unique, boundary_times, boundaries, has_event, resets, boluses, inside}
use Rattle.protocol.specs.Schedule.{Step, check, pre, post, apply, rates, reading, arrive, summed, marked, at_boundary, on_interval}
use Rattle.protocol.specs.Schedule.{following, from_first, schedule}
use Rattle.protocol.specs.Execute.{Propagator, Row, Side, Pre, Post, Reading, State, go, begin, run_of}
use Rattle.protocol.specs.PlainRun.{Prepared}
use Rattle.protocol.specs.SamplesApart.{boundary_rows}
use Rattle.protocol.proofs.ListLaws.{both, All-map, All-append, All-filter, All-member}
use Rattle.protocol.proofs.Times.{Inner, good, passed, boundaries_in, boundaries_rise, readings_in}
use Rattle.protocol.proofs.Effects.{values_of, leaves, rows_all, leaves_all, rows_append, run-left}

-- ---- boundary rows
-- a schedule without its readings
abbrev bare : List Step → List Step
bare [] = []
bare (check t ∷ xs) = check t ∷ bare xs
bare (pre t ∷ xs) = pre t ∷ bare xs
bare (post t ∷ xs) = post t ∷ bare xs
bare (apply t e ∷ xs) = apply t e ∷ bare xs
bare (rates r ∷ xs) = rates r ∷ bare xs
bare (reading t r u ∷ xs) = bare xs
bare (arrive t r u ∷ xs) = arrive t r u ∷ bare xs

bare_append : (xs ys : List Step) → bare (xs ++ ys) ≡ bare xs ++ bare ys
bare_append [] ys = refl
bare_append (check t ∷ xs) ys = ap (◌∷◌ (check t)) (bare_append xs ys)
bare_append (pre t ∷ xs) ys = ap (◌∷◌ (pre t)) (bare_append xs ys)
bare_append (post t ∷ xs) ys = ap (◌∷◌ (post t)) (bare_append xs ys)
bare_append (apply t e ∷ xs) ys = ap (◌∷◌ (apply t e)) (bare_append xs ys)
bare_append (rates r ∷ xs) ys = ap (◌∷◌ (rates r)) (bare_append xs ys)
bare_append (reading t r u ∷ xs) ys = bare_append xs ys
bare_append (arrive t r u ∷ xs) ys = ap (◌∷◌ (arrive t r u)) (bare_append xs ys)

bare_readings : (t : Float) (r : List Float) (us : List Float) (ys : List Step) → bare (map (reading t r) us ++ ys) ≡ bare ys
bare_readings t r [] ys = refl
bare_readings t r (u ∷ us) ys = bare_readings t r us ys

bare_interval : (t : Float) (r : List Float) (u : Float) (ss : List Float) → bare (on_interval t r u ss) ≡ rates r ∷ arrive t r u ∷ []
unfolding on_interval
bare_interval t r u ss = ap (◌∷◌ (rates r)) (bare_readings t r (inside t u ss) (arrive t r u ∷ []))

bare_following : (n : ℕ) (es : List Event) (ss ss' : List Float) (ms : List Bool) (t : Float) (us : List Float)
    → bare (following n es ss ms t us) ≡ bare (following n es ss' ms t us)
unfolding following
bare_following n es ss ss' ms t [] = refl
bare_following n es ss ss' ms t (u ∷ us) =
    let r = summed n t es (marked t es ms) in
    let tail = following n es ss (marked t es ms) u us in
    let tail' = following n es ss' (marked t es ms) u us in
    bare_append (at_boundary t es) (on_interval t r u ss ++ tail)
    ∙ ap (◌++◌ (bare (at_boundary t es)))
    (bare_append (on_interval t r u ss) tail
    ∙ ap₂ ◌++◌ (bare_interval t r u ss ∙ sym (bare_interval t r u ss')) (bare_following n es ss ss' (marked t es ms) u us)
    ∙ sym (bare_append (on_interval t r u ss') tail'))
    ∙ sym (bare_append (at_boundary t es) (on_interval t r u ss' ++ tail'))

bare_first : (n : ℕ) (es : List Event) (ss ss' : List Float) (bs : List Float) → bare (from_first n es ss bs) ≡ bare (from_first n es ss' bs)
unfolding from_first
bare_first n es ss ss' [] = refl
bare_first n es ss ss' (t ∷ ts) = bare_following n es ss ss' (replicate (length es) false) t ts

same_ends : (w w' : Window) (es : List Event) → w.start ≡ w'.start → w.end ≡ w'.end → boundaries w es ≡ boundaries w' es
unfolding boundaries
same_ends w w' es p q = ap₂ (λ (s e : Float). sorted_unique (boundary_times s e es)) p q

module _ (advance : Propagator) where
  bare_rows : (xs : List Step) (a : List Float) → boundary_rows (rows_all advance a xs) ≡ rows_all advance a (bare xs)
  bare_rows [] a = refl
  bare_rows (check t ∷ xs) a = bare_rows xs a
  bare_rows (pre t ∷ xs) a = ap (◌∷◌ (record { time = t; side = Pre; amounts = a })) (bare_rows xs a)
  bare_rows (post t ∷ xs) a = ap (◌∷◌ (record { time = t; side = Post; amounts = a })) (bare_rows xs a)
  bare_rows (apply t e ∷ xs) a = bare_rows xs (leaves advance a (apply t e))
  bare_rows (rates r ∷ xs) a = bare_rows xs a
  bare_rows (reading t r u ∷ xs) a = bare_rows xs a
  bare_rows (arrive t r u ∷ xs) a = bare_rows xs (leaves advance a (arrive t r u))

  run-rows : (n : ℕ) (w : Window) (ss : List Float) (es : List Event) (a : List Float) (z : State) → run_of advance n w ss es a ≡ go z
      → z.rows ≡ rows_all advance a (schedule n w ss es)
  unfolding run_of
  run-rows n w ss es a z e = (run-left advance w.propagations (schedule n w ss es) (begin a) z e).rows

  pub same_boundary_rows : (n : ℕ) (w w' : Window) (ss ss' : List Float) (es : List Event) (a : List Float) (z z' : State)
      → w.start ≡ w'.start → w.end ≡ w'.end
      → run_of advance n w ss es a ≡ go z → run_of advance n w' ss' es a ≡ go z' → boundary_rows z.rows ≡ boundary_rows z'.rows
  unfolding schedule
  same_boundary_rows n w w' ss ss' es a z z' p q e e' =
      ap boundary_rows (run-rows n w ss es a z e) ∙ bare_rows (schedule n w ss es) a
      ∙ ap (rows_all advance a) (bare_first n es (sorted_unique ss) (sorted_unique ss') (boundaries w es)
      ∙ ap (λ (bs : List Float). bare (from_first n es (sorted_unique ss') bs)) (same_ends w w' es p q))
      ∙ sym (ap boundary_rows (run-rows n w' ss' es a z' e') ∙ bare_rows (schedule n w' ss' es) a)

-- ---- readings
-- one test at two equal times
lt_level_right : (t s s' : Float) → Real binary64 t → Real binary64 s → Real binary64 s' → T (eq s s') → lt t s ≡ lt t s'
lt_level_right t s s' h p q e =
    lt_spot binary64 t s h.fit p.fit (real_good h).1 (real_good p).1 ∙ ap (ltb (spot binary64 t)) (eq→spot binary64 s s' (real_good p) (real_good q) e)
    ∙ sym (lt_spot binary64 t s' h.fit q.fit (real_good h).1 (real_good q).1)

lt_level_left : (t s s' : Float) → Real binary64 t → Real binary64 s → Real binary64 s' → T (eq s s') → lt s t ≡ lt s' t
lt_level_left t s s' h p q e =
    lt_spot binary64 s t p.fit h.fit (real_good p).1 (real_good h).1
    ∙ ap (λ (x : ℕ). ltb x (spot binary64 t)) (eq→spot binary64 s s' (real_good p) (real_good q) e)
    ∙ sym (lt_spot binary64 s' t q.fit h.fit (real_good q).1 (real_good h).1)

-- what a row that is a reading is to fulfil
abbrev OnReading : Side → Type 0 → Type 0
OnReading Pre A = Unit {0}
OnReading Post A = Unit {0}
OnReading Reading A = A

abbrev Reads : (Float → List Float → Type 0) → Row → Type 0
Reads P r = OnReading r.side (P r.time r.amounts)

not_both : (w : Window) (u s : Float) → Inner w u → Inner w s → T (lt u s) → T (lt s u) → ⊥
not_both w u s p q h k =
    let a : spot binary64 u < spot binary64 s = lt→spot binary64 u s (good p) (good q) h in
    let b : spot binary64 s < spot binary64 u = lt→spot binary64 s u (good q) (good p) k in
    omega arith

later_lt : (w : Window) (t u s : Float) → Inner w t → Inner w u → Inner w s → T (lt t u) → T (lt u s) → T (lt t s)
later_lt w t u s p q r h k = lt_transitive binary64 t u s (good p) (good q) (good r) h k

-- no reading
abbrev Plain : Step → Type 0
Plain (check t) = Unit {0}
Plain (pre t) = Unit {0}
Plain (post t) = Unit {0}
Plain (apply t e) = Unit {0}
Plain (rates r) = Unit {0}
Plain (reading t r u) = ⊥
Plain (arrive t r u) = Unit {0}

applies_plain : (t : Float) (es : List Event) → All Plain (map (apply t) es)
applies_plain t [] = tt
applies_plain t (e ∷ es) = (tt, applies_plain t es)

boundary_plain : (t : Float) (es : List Event) → All Plain (at_boundary t es)
unfolding at_boundary
boundary_plain t es = (
  tt,
  All-append Plain (pick (has_event t es) (pre t) []) (map (apply t) (resets t es ++ boluses t es) ++ (post t ∷ [])) (ahead (has_event t es))
      (All-append Plain (map (apply t) (resets t es ++ boluses t es)) (post t ∷ []) (applies_plain t (resets t es ++ boluses t es)) (tt, tt)),
)
  where
    ahead : (b : Bool) → All Plain (pick b (pre t) [])
    ahead true = (tt, tt)
    ahead false = tt

module _ (advance : Propagator) where
  plain_reads : (P : Float → List Float → Type 0) (xs : List Step) (a : List Float) → All Plain xs → All (Reads P) (rows_all advance a xs)
  plain_reads P [] a h = tt
  plain_reads P (check t ∷ xs) a h = plain_reads P xs a h.1
  plain_reads P (pre t ∷ xs) a h = (tt, plain_reads P xs a h.1)
  plain_reads P (post t ∷ xs) a h = (tt, plain_reads P xs a h.1)
  plain_reads P (apply t e ∷ xs) a h = plain_reads P xs (leaves advance a (apply t e)) h.1
  plain_reads P (rates r ∷ xs) a h = plain_reads P xs a h.1
  plain_reads P (reading t r u ∷ xs) a h = absurd h.0
  plain_reads P (arrive t r u ∷ xs) a h = plain_reads P xs (leaves advance a (arrive t r u)) h.1

  -- the amounts at a time between boundaries, from those boundaries alone
  value_at : ℕ → List Event → List Bool → List Float → Float → List Float → Float → List Float
  value_at n es ms a t [] s = []
  value_at n es ms a t (u ∷ us) s =
      let b = leaves_all advance a (at_boundary t es) in
      let r = summed n t es (marked t es ms) in
      cond (lt t s && lt s u) (values_of (advance b r (sub binary64 s t))) (value_at n es (marked t es ms) (values_of (advance b r (sub binary64 u t))) u us s)

  readings_leave : (t : Float) (r : List Float) (us : List Float) (u : Float) (a : List Float)
      → leaves_all advance a (map (reading t r) us ++ (arrive t r u ∷ [])) ≡ values_of (advance a r (sub binary64 u t))
  readings_leave t r [] u a = refl
  readings_leave t r (v ∷ vs) u a = readings_leave t r vs u a

  interval_leaves : (t : Float) (r : List Float) (u : Float) (ss : List Float) (a : List Float)
      → leaves_all advance a (on_interval t r u ss) ≡ values_of (advance a r (sub binary64 u t))
  unfolding on_interval
  interval_leaves t r u ss a = readings_leave t r (inside t u ss) u a

  readings_read : (P : Float → List Float → Type 0) (t : Float) (r : List Float) (us : List Float) (u : Float) (a : List Float)
      → All (λ (s : Float). P s (values_of (advance a r (sub binary64 s t)))) us
      → All (Reads P) (rows_all advance a (map (reading t r) us ++ (arrive t r u ∷ [])))
  readings_read P t r [] u a h = tt
  readings_read P t r (v ∷ vs) u a h = (h.0, readings_read P t r vs u a h.1)

  module _ (w : Window) (n : ℕ) (es : List Event) (ss : List Float) (samples : All (Inner w) ss) (P : Float → List Float → Type 0) where
    following_reads : (ms : List Bool) (a : List Float) (t : Float) (us : List Float) → All (Inner w) (t ∷ us) → Chain lt (t ∷ us)
        → ((s : Float) → Inner w s → T (lt t s) → P s (value_at n es ms a t us s)) → All (Reads P) (rows_all advance a (following n es ss ms t us))
    unfolding following on_interval value_at
    following_reads ms a t [] p c f = plain_reads P (at_boundary t es) a (boundary_plain t es)
    following_reads ms a t (u ∷ us) p c f =
        subst (All (Reads P)) (sym (rows_append advance a (at_boundary t es) (on_interval t r u ss ++ tail)))
        (All-append (Reads P) (rows_all advance a (at_boundary t es)) (rows_all advance b (on_interval t r u ss ++ tail))
        (plain_reads P (at_boundary t es) a (boundary_plain t es))
        (subst (All (Reads P)) (sym (rows_append advance b (on_interval t r u ss) tail))
        (All-append (Reads P) (rows_all advance b (on_interval t r u ss)) (rows_all advance (leaves_all advance b (on_interval t r u ss)) tail)
        (readings_read P t r (inside t u ss) u b (All-map here (inside t u ss) (All-filter (Inner w) (λ (s : Float). lt t s && lt s u) ss samples)))
        (subst (λ (x : List Float). All (Reads P) (rows_all advance x tail)) (sym (interval_leaves t r u ss b))
        (following_reads (marked t es ms) d u us p.1 c.1 later)))))
      where
        b : List Float
        b = leaves_all advance a (at_boundary t es)

        r : List Float
        r = summed n t es (marked t es ms)

        d : List Float
        d = values_of (advance b r (sub binary64 u t))

        tail : List Step
        tail = following n es ss (marked t es ms) u us

        on_true : (x : Bool) → T x → (v v' : List Float) (s : Float) → P s (cond x v v') → P s v
        on_true true h v v' s k = k
        on_true false h v v' s k = absurd h

        on_false : (x : Bool) → (T x → ⊥) → (v v' : List Float) (s : Float) → P s (cond x v v') → P s v'
        on_false true h v v' s k = absurd (h tt)
        on_false false h v v' s k = k

        here : (s : Float) → T (lt t s && lt s u) × Inner w s → P s (values_of (advance b r (sub binary64 s t)))
        here s k =
            on_true (lt t s && lt s u) k.0 (values_of (advance b r (sub binary64 s t))) (value_at n es (marked t es ms) d u us s) s
            (f s k.1 (both (lt t s) (lt s u) k.0).0)

        later : (s : Float) → Inner w s → T (lt u s) → P s (value_at n es (marked t es ms) d u us s)
        later s k l =
            on_false (lt t s && lt s u) (λ (h : T (lt t s && lt s u)). not_both w u s p.1.0 k l (both (lt t s) (lt s u) h).1)
            (values_of (advance b r (sub binary64 s t))) (value_at n es (marked t es ms) d u us s) s
            (f s k (later_lt w t u s p.0 p.1.0 k c.0 l))

  -- equal times, one value
  value_at_level : (w : Window) (n : ℕ) (es : List Event) (s s' : Float) → Real binary64 s → Real binary64 s' → T (eq s s')
      → (ms : List Bool) (a : List Float) (t : Float) (us : List Float) → All (Inner w) (t ∷ us)
      → value_at n es ms a t us s ≡ value_at n es ms a t us s'
  unfolding value_at
  value_at_level w n es s s' h k e ms a t [] p = refl
  value_at_level w n es s s' h k e ms a t (u ∷ us) p =
      on (lt t s && lt s u) (lt t s' && lt s' u)
      (ap₂ ◌&&◌ (lt_level_right t s s' p.0.real h k e) (lt_level_left u s s' p.1.0.real h k e))
      (λ (l : T (lt t s && lt s u)). sub_level binary64 t s s' p.0.real h k e (both (lt t s) (lt s u) l).0)
      (value_at_level w n es s s' h k e (marked t es ms) d u us p.1)
    where
      b : List Float
      b = leaves_all advance a (at_boundary t es)

      r : List Float
      r = summed n t es (marked t es ms)

      d : List Float
      d = values_of (advance b r (sub binary64 u t))

      on : (x x' : Bool) → x ≡ x' → (T x → sub binary64 s t ≡ sub binary64 s' t)
          → value_at n es (marked t es ms) d u us s ≡ value_at n es (marked t es ms) d u us s'
          → cond x (values_of (advance b r (sub binary64 s t))) (value_at n es (marked t es ms) d u us s)
          ≡ cond x' (values_of (advance b r (sub binary64 s' t))) (value_at n es (marked t es ms) d u us s')
      on true true q f ih = ap (λ (x : Float). values_of (advance b r x)) (f tt)
      on false false q f ih = ih
      on true false q f ih = absurd (subst T q tt)
      on false true q f ih = absurd (subst T (sym q) tt)

  -- what a reading of a run from the boundaries bs is
  ReadsAt : ℕ → List Event → List Float → List Float → Float → List Float → Type 0
  ReadsAt n es a [] s v = ⊥
  ReadsAt n es a (t ∷ ts) s v = Real binary64 s × (value_at n es (replicate (length es) false) a t ts s ≡ v)

  first_reads : (w : Window) (n : ℕ) (es : List Event) (ss : List Float) (a : List Float) (bs : List Float) → All (Inner w) ss → All (Inner w) bs → Chain lt bs
      → All (Reads (ReadsAt n es a bs)) (rows_all advance a (from_first n es ss bs))
  unfolding from_first ReadsAt
  first_reads w n es ss a [] h p c = tt
  first_reads w n es ss a (t ∷ ts) h p c =
      following_reads w n es ss h (ReadsAt n es a (t ∷ ts)) (replicate (length es) false) a t ts p c
      (λ (s : Float) (k : Inner w s) (l : T (lt t s)). (k.real, refl))

  reads_level : (w : Window) (n : ℕ) (es : List Event) (a : List Float) (bs : List Float) → All (Inner w) bs
      → (s s' : Float) (v v' : List Float) → T (eq s s') → ReadsAt n es a bs s v → ReadsAt n es a bs s' v' → v ≡ v'
  unfolding ReadsAt
  reads_level w n es a [] p s s' v v' e h k = absurd h
  reads_level w n es a (t ∷ ts) p s s' v v' e h k = sym h.1 ∙ value_at_level w n es s s' h.0 k.0 e (replicate (length es) false) a t ts p ∙ k.1

  reading_of : (P : Float → List Float → Type 0) (r : Row) → r.side ≡ Reading → Reads P r → P r.time r.amounts
  reading_of P r e h = subst (λ (d : Side). OnReading d (P r.time r.amounts)) e h

  run_reads : (n : ℕ) (w : Window) (ss : List Float) (es : List Event) (a : List Float) (z : State) → Prepared n w ss es
      → run_of advance n w ss es a ≡ go z → All (Reads (ReadsAt n es a (boundaries w es))) z.rows
  unfolding schedule
  run_reads n w ss es a z g e =
      let k = passed g in
      subst (All (Reads (ReadsAt n es a (boundaries w es)))) (sym (run-rows advance n w ss es a z e))
      (first_reads w n es (sorted_unique ss) a (boundaries w es) (readings_in k) (boundaries_in k) (boundaries_rise k))

  pub same-readings : (n : ℕ) (w w' : Window) (ss ss' : List Float) (es : List Event) (a : List Float) (z z' : State) → Prepared n w ss es
      → Prepared n w' ss' es → w.start ≡ w'.start → w.end ≡ w'.end
      → run_of advance n w ss es a ≡ go z → run_of advance n w' ss' es a ≡ go z'
      → (r r' : Row) → Memᴰ r z.rows → Memᴰ r' z'.rows → r.side ≡ Reading → r'.side ≡ Reading
      → T (eq r.time r'.time) → r.amounts ≡ r'.amounts
  same-readings n w w' ss ss' es a z z' g g' p q e e' r r' m m' d d' l =
      reads_level w n es a (boundaries w es) (boundaries_in (passed g)) r.time r'.time r.amounts r'.amounts l
      (reading_of (ReadsAt n es a (boundaries w es)) r d (All-member (Reads (ReadsAt n es a (boundaries w es))) r z.rows (run_reads n w ss es a z g e) m))
      (subst (λ (bs : List Float). ReadsAt n es a bs r'.time r'.amounts) (sym (same_ends w w' es p q))
      (reading_of (ReadsAt n es a (boundaries w' es)) r' d' (All-member (Reads (ReadsAt n es a (boundaries w' es))) r' z'.rows
      (run_reads n w' ss' es a z' g' e') m')))
