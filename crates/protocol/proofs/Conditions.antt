-- A step stops exactly where it meets the condition of a number (`step-meets`, `meets-stops`), for an advance that goes forward in the
-- window with rates that pass. Each advance that a run
-- of a prepared list comes to is such a one (`schedule-ready`), and each state and row on the way holds n amounts, finite and at least 0
-- (`run_sound`). So the run stops exactly
-- where the first step that refuses meets its condition (`first_met`). Assumes nothing.
use mathlib.Core.Path.{◌≡◌, refl, sym, ap, ◌∙◌, subst}
use Prim.Native.Nat.{ℕ, zero, suc, ◌≤◌, ◌<◌}
use native.Mathlib.Nat.{lt_irrefl, lt_of_le_of_lt}
use native.Mathlib.Omega.{arith}
use mathlib.Core.Bool.{Bool, true, false, not, cond, ◌&&◌, ◌||◌}
use mathlib.Core.List.{List, [], ◌∷◌, ◌++◌, map}
use mathlib.Core.Logic.{◌⊎◌, inl, inr, ◌↔◌}
use lib.Dec.{T, ltb, eqb, eqb→eq, ltb→lt, lt→ltb, nltb→le, not_T, T_not}
use lib.ListN.{length, get_or, replicate, length-set, length-replicate}
use lib.Ieee.{Float, nan, binary64, add, sub, lt}
use lib.Ieee.Fits.{eq→eqb}
use lib.Ieee.Scale.{finite}
use Rattle.binary64.specs.Doubles.{plus_zero, nonnegative}
use Rattle.binary64.proofs.Signs.{at_least_zero, at_least_zero→nonnegative, add_at_least_zero}
use Rattle.binary64.proofs.Sorted.{All, Chain}
use Rattle.protocol.specs.declared.Event.{Event}
use Rattle.protocol.specs.declared.Window.{Window}
use Rattle.binary64.specs.Lists.{all, pick, amounts_pass}
use Rattle.refusal.specs.Result.{Result, refused, done}
use Rattle.protocol.specs.Events.{target, sorted_unique, boundaries, has_event, resets, boluses, inside}
use Rattle.protocol.specs.Schedule.{Step, check, pre, post, apply, rates, reading, arrive, add_to, flows, infusion_rate, with_rate}
use Rattle.protocol.specs.Schedule.{with_rates, summed, marked, at_boundary, on_interval, following, from_first, schedule}
use Rattle.protocol.specs.Execute.{Propagator, Row, Reading, State, Outcome, go, stop, and_then, with_amounts, with_row, with_advance}
use Rattle.protocol.specs.Execute.{dosed, dosed_amounts, after_advance, propagate, execute, run, begin, run_of}
use Rattle.protocol.specs.PlainRun.{advance_numbers, stop_numbers, one_of, arguments_pass, Conditions, KernelLaws, Prepared, Cycle, Advances, to_reading, to_boundary}
use Rattle.protocol.specs.PlainRun.{Meets, spent, overflows, refuses, state, dose, summed_rates, FirstMet, rows_left}
use Rattle.protocol.proofs.ListLaws.{both, and_T, all_snoc, All-map, All-append, All-filter}
use Rattle.protocol.proofs.Times.{Inner, Rated, Passed, passed, boundaries_in, boundaries_rise, readings_in, rated, lasts, duration, not_zero}
use Rattle.protocol.proofs.FirstStop.{go-stop, stop-go, go_same, stop-same, stop_splits, split_stops}
use Rattle.protocol.proofs.Effects.{stop-left}

-- ---- the summed rates
abbrev Flow : Float → Type 0
Flow x = T (at_least_zero x)

add_to-flows : (xs : List Float) (i : ℕ) (x : Float) → All Flow xs → Flow x → All Flow (add_to xs i x)
add_to-flows [] i x h g = tt
add_to-flows (y ∷ ys) zero x h g = (add_at_least_zero binary64 y x h.0 g, h.1)
add_to-flows (y ∷ ys) (suc i) x h g = (h.0, add_to-flows ys i x h.1 g)

-- n rates, each at or above 0
abbrev Flows : ℕ → List Float → Type 0
Flows n r = (length r ≡ n) × All Flow r

with_rate-flows : (n : ℕ) (t : Float) (e : Event) (m : Bool) (r : List Float) → Rated e → Flows n r → Flows n (with_rate t e m r)
with_rate-flows n t e m r g h = on (flows t e m)
  where
    on : (b : Bool) → Flows n (cond b (add_to r (target e) (infusion_rate e)) r)
    on true = (length-set r (target e) (add binary64 (get_or r (target e) nan) (infusion_rate e)) ∙ h.0, add_to-flows r (target e) (infusion_rate e) h.1 g)
    on false = h

with_rates-flows : (n : ℕ) (t : Float) (es : List Event) (ms : List Bool) (r : List Float) → All Rated es → Flows n r → Flows n (with_rates t es ms r)
with_rates-flows n t [] ms r g h = h
with_rates-flows n t (e ∷ es) [] r g h = h
with_rates-flows n t (e ∷ es) (m ∷ ms) r g h = with_rates-flows n t es ms (with_rate t e m r) g.1 (with_rate-flows n t e m r g.0 h)

zeros_flow : (n : ℕ) → All Flow (replicate n plus_zero)
zeros_flow zero = tt
zeros_flow (suc n) = (tt, zeros_flow n)

summed-flows : (n : ℕ) (t : Float) (es : List Event) (ms : List Bool) → All Rated es → Flows n (summed n t es ms)
unfolding summed
summed-flows n t es ms g = with_rates-flows n t es ms (replicate n plus_zero) g (length-replicate n plus_zero, zeros_flow n)

nonnegative-rates : (r : List Float) → T (all finite r) → All Flow r → T (all nonnegative r)
nonnegative-rates [] h k = tt
nonnegative-rates (x ∷ xs) h k =
    let p = both (finite x) (all finite xs) h in
    and_T (nonnegative x) (all nonnegative xs) (at_least_zero→nonnegative x p.0 k.0) (nonnegative-rates xs p.1 k.1)

amounts_pass_lem : (n : ℕ) (a : List Float) → length a ≡ n → T (all nonnegative a) → T (amounts_pass n a)
amounts_pass_lem n a e h = and_T (eqb (length a) n) (all nonnegative a) (eq→eqb e) h

-- ---- sound: n amounts, finite and at least 0, in the state and in each row
pub record Sound (n : ℕ) (s : State) : Type 0 where
  pub amounts : T (amounts_pass n s.amounts)
  pub rows : T (all (λ (r : Row). amounts_pass n r.amounts) s.rows)

amounts-count : (n : ℕ) (s : State) → Sound n s → length s.amounts ≡ n
amounts-count n s h = eqb→eq (length s.amounts) n (both (eqb (length s.amounts) n) (all nonnegative s.amounts) h.amounts).0

-- ---- an advance, taken apart
same_number : {c d : ℕ} → ◌≡◌ {A = Result (List Float)} (refused c) (refused d) → c ≡ d
same_number e = cc

-- the step goes on, with an advance that gives the amounts a
Moves : Propagator → Float → List Float → Float → (List Float → State → State) → State → State → Type 0
Moves advance t r u k s z = (a : List Float) × (advance s.amounts r (sub binary64 u t) ≡ done a) × (k a (with_advance t u s) ≡ z)

module _ (advance : Propagator) (budget : ℕ) (t : Float) (r : List Float) (u : Float) (k : List Float → State → State) (s : State) where
  moves : (z : State) → propagate advance budget t r u k s ≡ go z → Moves advance t r u k s z
  unfolding propagate Moves
  moves z e = on (ltb (length s.advances) budget) (advance s.amounts r (sub binary64 u t)) refl e
    where
      on : (b : Bool) (m : Result (List Float)) → advance s.amounts r (sub binary64 u t) ≡ m
          → cond b (after_advance u (with_advance t u s) (λ (a : List Float). k a (with_advance t u s)) m) (stop 30 u (with_advance t u s))
          ≡ go z → Moves advance t r u k s z
      on true (done a) q e = (a, q, go_same e)
      on true (refused c) q e = absurd (stop-go e)
      on false m q e = absurd (stop-go e)

  -- it stops at u, with the budget spent or with the kernel's number
  halts : (c : ℕ) (v : Float) (z : State) → propagate advance budget t r u k s ≡ stop c v z
      → (u ≡ v) × (((30 ≡ c) × (budget ≤ length s.advances)) ⊎ ((length s.advances < budget) × (advance s.amounts r (sub binary64 u t) ≡ refused c)))
  unfolding propagate
  halts c v z e =
      on (ltb (length s.advances) budget) (ltb→lt (length s.advances) budget) (nltb→le (length s.advances) budget)
      (advance s.amounts r (sub binary64 u t)) refl e
    where
      on : (b : Bool) → (T b → length s.advances < budget) → (T (not b) → budget ≤ length s.advances) → (m : Result (List Float))
          → advance s.amounts r (sub binary64 u t) ≡ m
          → cond b (after_advance u (with_advance t u s) (λ (a : List Float). k a (with_advance t u s)) m) (stop 30 u (with_advance t u s)) ≡ stop c v z
          → (u ≡ v) × (((30 ≡ c) × (budget ≤ length s.advances))
          ⊎ ((length s.advances < budget) × (advance s.amounts r (sub binary64 u t) ≡ refused c)))
      on true f g (done a) q e = absurd (go-stop e)
      on true f g (refused d) q e = let w = stop-same e in (w.1, inr (f tt, q ∙ ap refused w.0))
      on false f g m q e = let w = stop-same e in (w.1, inl (w.0, g tt))

  halts_spent : budget ≤ length s.advances → propagate advance budget t r u k s ≡ stop 30 u (with_advance t u s)
  unfolding propagate
  halts_spent h = on (ltb (length s.advances) budget) (λ (b : T (ltb (length s.advances) budget)). no (ltb→lt (length s.advances) budget b))
    where
      no : length s.advances < budget → ⊥
      no l = lt_irrefl budget (lt_of_le_of_lt h l)

      on : (b : Bool) → (T b → ⊥) → cond b (after_advance u (with_advance t u s) (λ (a : List Float). k a (with_advance t u s))
          (advance s.amounts r (sub binary64 u t))) (stop 30 u (with_advance t u s)) ≡ stop 30 u (with_advance t u s)
      on true f = absurd (f tt)
      on false f = refl

  halts_refused : (c : ℕ) → length s.advances < budget → advance s.amounts r (sub binary64 u t) ≡ refused c
      → propagate advance budget t r u k s ≡ stop c u (with_advance t u s)
  unfolding propagate
  halts_refused c h e =
      on (ltb (length s.advances) budget) (lt→ltb (length s.advances) budget h)
      ∙ ap (after_advance u (with_advance t u s) (λ (a : List Float). k a (with_advance t u s))) e
    where
      on : (b : Bool) → T b → cond b (after_advance u (with_advance t u s) (λ (a : List Float). k a (with_advance t u s))
          (advance s.amounts r (sub binary64 u t))) (stop 30 u (with_advance t u s))
          ≡ after_advance u (with_advance t u s) (λ (a : List Float). k a (with_advance t u s)) (advance s.amounts r (sub binary64 u t))
      on true f = refl
      on false f = absurd f

-- ---- a test, taken apart
module _ (b : Bool) (c : ℕ) (t : Float) (y : State) where
  goes : (z : State) → cond b (go y) (stop c t y) ≡ go z → T b × (y ≡ z)
  goes z e = on b e
    where
      on : (b : Bool) → cond b (go y) (stop c t y) ≡ go z → T b × (y ≡ z)
      on true e = (tt, go_same e)
      on false e = absurd (stop-go e)

  fails : (d : ℕ) (u : Float) (z : State) → cond b (go y) (stop c t y) ≡ stop d u z → T (not b) × (c ≡ d) × (t ≡ u)
  fails d u z e = on b e
    where
      on : (b : Bool) → cond b (go y) (stop c t y) ≡ stop d u z → T (not b) × (c ≡ d) × (t ≡ u)
      on true e = absurd (go-stop e)
      on false e = let w = stop-same e in (tt, w.0, w.1)

  fails_back : T (not b) → cond b (go y) (stop c t y) ≡ stop c t y
  fails_back h = on b h
    where
      on : (b : Bool) → T (not b) → cond b (go y) (stop c t y) ≡ stop c t y
      on true h = absurd h
      on false h = refl

-- ---- an advance that is ready: forward in the window, with rates that pass
abbrev Forward : ℕ → Window → Float → List Float → Float → Type 0
Forward n w t r u = Inner w t × Inner w u × T (lt t u) × T (amounts_pass n r)

abbrev pub Ready : ℕ → Window → Step → Type 0
Ready n w (check t) = Unit {0}
Ready n w (pre t) = Unit {0}
Ready n w (post t) = Unit {0}
Ready n w (apply t e) = Unit {0}
Ready n w (rates r) = Unit {0}
Ready n w (reading t r u) = Forward n w t r u
Ready n w (arrive t r u) = Forward n w t r u

module _ (n : ℕ) (advance : Propagator) {Refuses : Conditions} (budget : ℕ) (laws : KernelLaws n advance Refuses) where
  -- ---- a step keeps what is sound
  step-sound : (x : Step) (s z : State) → Sound n s → execute advance budget s x ≡ go z → Sound n z
  unfolding execute Moves
  step-sound (check t) s z h e = subst (Sound n) (goes (all nonnegative s.amounts) 31 t s z e).1 h
  step-sound (pre t) s z h e = subst (Sound n) (go_same e) (record {
    amounts = h.amounts;
    rows = all_snoc
        (λ (r : Row). amounts_pass n r.amounts) s.rows _ h.rows h.amounts;
  })
  step-sound (post t) s z h e = subst (Sound n) (go_same e) (record {
    amounts = h.amounts;
    rows = all_snoc
        (λ (r : Row). amounts_pass n r.amounts) s.rows _ h.rows h.amounts;
  })
  step-sound (apply t v) s z h e =
      let a = dosed_amounts v s.amounts in
      let w = goes (all nonnegative a) 31 t (with_amounts a s) z e in
      subst (Sound n) w.1 (record {
        amounts = amounts_pass_lem n a (length-set s.amounts (target v)
            (dosed v (get_or s.amounts (target v) nan)) ∙ amounts-count n s h) w.0;
        rows = h.rows;
      })
  step-sound (rates r) s z h e = subst (Sound n) (goes (all finite r) 32 plus_zero s z e).1 h
  step-sound (reading t r u) s z h e =
      let w = moves advance budget t r u (λ (a : List Float). with_row u Reading a) s z e in
      subst (Sound n) w.2 (record {
        amounts = h.amounts;
        rows = all_snoc (λ (r : Row). amounts_pass n r.amounts) s.rows _ h.rows
            (laws.amounts s.amounts r (sub binary64 u t) w.0 w.1);
      })
  step-sound (arrive t r u) s z h e =
      let w = moves advance budget t r u (λ (a : List Float). with_amounts a) s z e in
      subst (Sound n) w.2 (record { amounts = laws.amounts s.amounts r (sub binary64 u t) w.0 w.1; rows = h.rows })

  pub run_sound : (xs : List Step) (s z : State) → Sound n s → run advance budget s xs ≡ go z → Sound n z
  unfolding run
  run_sound [] s z h e = subst (Sound n) (go_same e) h
  run_sound (x ∷ xs) s z h e = on (execute advance budget s x) refl e (λ (y : State). run_sound xs y z)
    where
      on : (o : Outcome) → execute advance budget s x ≡ o → and_then o (λ (y : State). run advance budget y xs) ≡ go z
          → ((y : State) → Sound n y → run advance budget y xs ≡ go z → Sound n z) → Sound n z
      on (go y) p q ih = ih y (step-sound x s y h p) q
      on (stop c t y) p q ih = absurd (stop-go q)

  -- wherever the run ends
  pub rows_pass : (xs : List Step) (s : State) → Sound n s → T (all (λ (r : Row). amounts_pass n r.amounts) (rows_left (run advance budget s xs)))
  rows_pass xs s h = on (run advance budget s xs) refl
    where
      on : (o : Outcome) → run advance budget s xs ≡ o → T (all (λ (r : Row). amounts_pass n r.amounts) (rows_left o))
      on (go z) e = (run_sound xs s z h e).rows
      on (stop c t z) e =
          let w = stop_splits advance budget xs s c t z e in
          subst (λ (rs : List Row). T (all (λ (r : Row). amounts_pass n r.amounts) rs))
          (sym (stop-left advance budget w.step w.left z c t w.refuses).0) (run_sound w.ahead s w.left h w.ran).rows

  -- ---- a step that is ready stops exactly where it meets a condition
  module _ (w : Window) (s : State) (sound : Sound n s) where
    arguments : (t : Float) (r : List Float) (u : Float) → Forward n w t r u → T (finite (sub binary64 u t))
        → T (arguments_pass n s.amounts r (sub binary64 u t))
    arguments t r u g f =
        and_T (amounts_pass n s.amounts) (amounts_pass n r && nonnegative (sub binary64 u t)) sound.amounts
        (and_T (amounts_pass n r) (nonnegative (sub binary64 u t)) g.3 (duration t u g.0 g.1 g.2 f))

    -- an advance whose duration overflows is refused with 3
    three : (t : Float) (r : List Float) (u : Float) → T (not (finite (sub binary64 u t))) → advance s.amounts r (sub binary64 u t) ≡ refused 3
    three t r u h = (laws.three s.amounts r (sub binary64 u t)).1 (not_T (arguments_pass n s.amounts r (sub binary64 u t)) no)
      where
        no : T (arguments_pass n s.amounts r (sub binary64 u t)) → ⊥
        no p =
            let q = (both (amounts_pass n s.amounts) (amounts_pass n r && nonnegative (sub binary64 u t)) p).1 in
            T_not (finite (sub binary64 u t)) h (both (finite (sub binary64 u t)) (not (lt (sub binary64 u t) plus_zero))
            (both (amounts_pass n r) (nonnegative (sub binary64 u t)) q).1).0

    -- and else with a number exactly where its condition holds
    conditions : (t : Float) (r : List Float) (u : Float) → Forward n w t r u → T (finite (sub binary64 u t)) → (c : ℕ)
        → (advance s.amounts r (sub binary64 u t) ≡ refused c) ↔ Refuses c s.amounts r (sub binary64 u t)
    conditions t r u g f = laws.conditions s.amounts r (sub binary64 u t) (arguments t r u g f) (not_zero t u g.0 g.1 g.2 f)

    kernel-meets : {x : Step} {t : Float} {r : List Float} {u : Float} → Advances x t r u → Forward n w t r u → (c : ℕ) → length s.advances < budget
        → advance s.amounts r (sub binary64 u t) ≡ refused c → Meets Refuses budget c u x s
    kernel-meets {x} {t} {r} {u} to g c l e = on (finite (sub binary64 u t)) (λ p. p) (λ p. p)
      where
        arithmetic : (b : Bool) → (T b → c ≡ 3) → T (finite (sub binary64 u t)) → T (b || one_of c advance_numbers) → T (one_of c advance_numbers)
        arithmetic true f p h =
            absurd (T_not (arguments_pass n s.amounts r (sub binary64 u t)) ((laws.three s.amounts r (sub binary64 u t)).0
            (e ∙ ap refused (f tt))) (arguments t r u g p))
        arithmetic false f p h = h

        on : (b : Bool) → (T b → T (finite (sub binary64 u t))) → (T (not b) → T (not (finite (sub binary64 u t)))) → Meets Refuses budget c u x s
        on true f h =
            refuses to l (f tt) (arithmetic (eqb c 3) (eqb→eq c 3) (f tt) (laws.numbers s.amounts r (sub binary64 u t) c e))
            ((conditions t r u g (f tt) c).0 e)
        on false f h = subst (λ (d : ℕ). Meets Refuses budget d u x s) (same_number (sym (three t r u (h tt)) ∙ e)) (overflows to l (h tt))

    advance-meets : {x : Step} {t : Float} {r : List Float} {u : Float} → Advances x t r u → Forward n w t r u
        → (k : List Float → State → State) (c : ℕ) (v : Float) (z : State)
        → propagate advance budget t r u k s ≡ stop c v z → Meets Refuses budget c v x s
    advance-meets {x} {t} {r} {u} to g k c v z e = let h = halts advance budget t r u k s c v z e in subst
        (λ (y : Float). Meets Refuses budget c y x s) h.0 (on h.1)
      where
        on : ((30 ≡ c) × (budget ≤ length s.advances))
            ⊎ ((length s.advances < budget) × (advance s.amounts r (sub binary64 u t) ≡ refused c)) → Meets Refuses budget c u x s
        on (inl h) = subst (λ (d : ℕ). Meets Refuses budget d u x s) h.0 (spent to h.1)
        on (inr h) = kernel-meets to g c h.0 h.1

    pub step-meets : (x : Step) → Ready n w x → (c : ℕ) (t : Float) (z : State) → execute advance budget s x ≡ stop c t z → Meets Refuses budget c t x s
    unfolding execute
    step-meets (check t) g c u z e =
        let h = fails (all nonnegative s.amounts) 31 t s c u z e in
        subst (λ (d : ℕ). Meets Refuses budget d u (check t) s) h.1 (subst (λ (y : Float). Meets Refuses budget 31 y (check t) s) h.2 (state h.0))
    step-meets (pre t) g c u z e = absurd (go-stop e)
    step-meets (post t) g c u z e = absurd (go-stop e)
    step-meets (apply t v) g c u z e =
        let h = fails (all nonnegative (dosed_amounts v s.amounts)) 31 t (with_amounts (dosed_amounts v s.amounts) s) c u z e in
        subst (λ (d : ℕ). Meets Refuses budget d u (apply t v) s) h.1 (subst (λ (y : Float). Meets Refuses budget 31 y (apply t v) s) h.2 (dose h.0))
    step-meets (rates r) g c u z e =
        let h = fails (all finite r) 32 plus_zero s c u z e in
        subst (λ (d : ℕ). Meets Refuses budget d u (rates r) s) h.1 (subst (λ (y : Float). Meets Refuses budget 32 y (rates r) s) h.2
        (summed_rates h.0))
    step-meets (reading t r u) g c v z e = advance-meets to_reading g (λ (a : List Float). with_row u Reading a) c v z e
    step-meets (arrive t r u) g c v z e = advance-meets to_boundary g (λ (a : List Float). with_amounts a) c v z e

    pub meets-stops : {x : Step} {c : ℕ} {t : Float} → Ready n w x → Meets Refuses budget c t x s → (z : State) × (execute advance budget s x ≡ stop c t z)
    unfolding execute
    meets-stops g (spent {t = t} {r = r} {u = u} to_reading h) = (
      with_advance t u s,
      halts_spent advance budget t r u (λ (a : List Float). with_row u Reading a) s h,
    )
    meets-stops g (spent {t = t} {r = r} {u = u} to_boundary h) = (with_advance t u s, halts_spent advance budget t r u (λ (a : List Float). with_amounts a) s h)
    meets-stops g (overflows {t = t} {r = r} {u = u} to_reading l h) = (
      with_advance t u s,
      halts_refused advance budget t r u (λ (a : List Float). with_row u Reading a) s 3 l (three t r u h),
    )
    meets-stops g (overflows {t = t} {r = r} {u = u} to_boundary l h) = (
      with_advance t u s,
      halts_refused advance budget t r u (λ (a : List Float). with_amounts a) s 3 l (three t r u h),
    )
    meets-stops g (refuses {t = t} {r = r} {u = u} {c = c} to_reading l f o h) = (
      with_advance t u s,
      halts_refused advance budget t r u (λ (a : List Float). with_row u Reading a) s c l ((conditions t r u g f c).1 h),
    )
    meets-stops g (refuses {t = t} {r = r} {u = u} {c = c} to_boundary l f o h) = (
      with_advance t u s,
      halts_refused advance budget t r u (λ (a : List Float). with_amounts a) s c l ((conditions t r u g f c).1 h),
    )
    meets-stops g (state {t = t} h) = (s, fails_back (all nonnegative s.amounts) 31 t s h)
    meets-stops g (dose {t = t} {e = v} h) = (
      with_amounts (dosed_amounts v s.amounts) s,
      fails_back (all nonnegative (dosed_amounts v s.amounts)) 31 t (with_amounts (dosed_amounts v s.amounts) s) h,
    )
    meets-stops g (summed_rates {r = r} h) = (s, fails_back (all finite r) 32 plus_zero s h)

  -- ---- P of each step that a run from s comes to
  module _ (P : Step → Type 0) where
    abbrev Along : State → List Step → Type 0
    Along s [] = Unit {0}
    Along s (x ∷ xs) = P x × ((z : State) → execute advance budget s x ≡ go z → Along z xs)

    along_all : (xs : List Step) → All P xs → (s : State) → Along s xs
    along_all [] h s = tt
    along_all (x ∷ xs) h s = (h.0, λ (z : State) (e : execute advance budget s x ≡ go z). along_all xs h.1 z)

    along_append : (xs ys : List Step) (s : State) → Along s xs → ((z : State) → Along z ys) → Along s (xs ++ ys)
    along_append [] ys s h k = k s
    along_append (x ∷ xs) ys s h k = (h.0, λ (z : State) (e : execute advance budget s x ≡ go z). along_append xs ys z (h.1 z e) k)

    along_at : (xs : List Step) (x : Step) (rest : List Step) (s z : State) → Along s (xs ++ (x ∷ rest)) → run advance budget s xs ≡ go z → P x
    unfolding run
    along_at [] x rest s z h e = h.0
    along_at (y ∷ ys) x rest s z h e = on (execute advance budget s y) refl e (λ (v : State). along_at ys x rest v z)
      where
        on : (o : Outcome) → execute advance budget s y ≡ o → and_then o (λ (v : State). run advance budget v ys) ≡ go z
            → ((v : State) → Along v (ys ++ (x ∷ rest)) → run advance budget v ys ≡ go z → P x) → P x
        on (go v) p q ih = ih v (h.1 v p) q
        on (stop c t v) p q ih = absurd (stop-go q)

  -- ---- the schedule of a prepared list is ready
  module _ (w : Window) where
    applies_ready : (t : Float) (es : List Event) → All (Ready n w) (map (apply t) es)
    applies_ready t [] = tt
    applies_ready t (e ∷ es) = (tt, applies_ready t es)

    boundary_ready : (t : Float) (es : List Event) → All (Ready n w) (at_boundary t es)
    unfolding at_boundary
    boundary_ready t es = (
      tt,
      All-append (Ready n w) (pick (has_event t es) (pre t) []) (map (apply t) (resets t es ++ boluses t es) ++ (post t ∷ [])) (first (has_event t es))
          (All-append (Ready n w) (map (apply t) (resets t es ++ boluses t es)) (post t ∷ []) (applies_ready t (resets t es ++ boluses t es)) (tt, tt)),
    )
      where
        first : (b : Bool) → All (Ready n w) (pick b (pre t) [])
        first true = (tt, tt)
        first false = tt

    readings-ready : (t : Float) (r us : List Float) → Inner w t → T (amounts_pass n r) → All (λ (u : Float). T (lt t u) × Inner w u) us
        → All (Ready n w) (map (reading t r) us)
    readings-ready t r [] p h k = tt
    readings-ready t r (u ∷ us) p h k = ((p, k.0.1, k.0.0, h), readings-ready t r us p h k.1)

    inside_in : (t u : Float) (ss : List Float) → All (Inner w) ss → All (λ (s : Float). T (lt t s) × Inner w s) (inside t u ss)
    inside_in t u ss h =
        All-map (λ (s : Float) (k : T (lt t s && lt s u) × Inner w s). ((both (lt t s) (lt s u) k.0).0, k.1)) (inside t u ss)
        (All-filter (Inner w) (λ (s : Float). lt t s && lt s u) ss h)

    -- behind the test of the rates these are finite
    interval-ready : (t : Float) (r : List Float) (u : Float) (ss : List Float) → Inner w t → Inner w u → T (lt t u) → All (Inner w) ss
        → Flows n r → (s : State) → Along (Ready n w) s (on_interval t r u ss)
    unfolding on_interval execute
    interval-ready t r u ss p q l h k s = (
      tt,
      λ (z : State) (e : execute advance budget s (rates r) ≡ go z). along_all (Ready n w) rest
          (ready (goes (all finite r) 32 plus_zero s z e).0) z,
    )
      where
        rest : List Step
        rest = map (reading t r) (inside t u ss) ++ (arrive t r u ∷ [])

        ready : T (all finite r) → All (Ready n w) rest
        ready f =
            let g = amounts_pass_lem n r k.0 (nonnegative-rates r f k.1) in
            All-append (Ready n w) (map (reading t r) (inside t u ss)) (arrive t r u ∷ [])
            (readings-ready t r (inside t u ss) p g (inside_in t u ss h)) ((p, q, l, g), tt)

    following-ready : (es : List Event) (ss : List Float) (ms : List Bool) (t : Float) (us : List Float) → All Rated es → All (Inner w) ss
        → All (Inner w) (t ∷ us) → Chain lt (t ∷ us)
        → (s : State) → Along (Ready n w) s (following n es ss ms t us)
    unfolding following
    following-ready es ss ms t [] g h p c s = along_all (Ready n w) (at_boundary t es) (boundary_ready t es) s
    following-ready es ss ms t (u ∷ us) g h p c s =
        let r = summed n t es (marked t es ms) in
        let tail = following n es ss (marked t es ms) u us in
        along_append (Ready n w) (at_boundary t es) (on_interval t r u ss ++ tail) s (along_all (Ready n w) (at_boundary t es) (boundary_ready t es) s)
        (λ (z : State). along_append (Ready n w) (on_interval t r u ss) tail z (interval-ready t r u ss p.0 p.1.0 c.0 h
        (summed-flows n t es (marked t es ms) g) z)
        (following-ready es ss (marked t es ms) u us g h p.1 c.1))

    schedule-ready : (ss : List Float) (es : List Event) → Passed w ss es → (s : State) → Along (Ready n w) s (schedule n w ss es)
    unfolding schedule from_first
    schedule-ready ss es k s = on (boundaries w es) (boundaries_in k) (boundaries_rise k)
      where
        on : (bs : List Float) → All (Inner w) bs → Chain lt bs → Along (Ready n w) s (from_first n es (sorted_unique ss) bs)
        on [] p c = tt
        on (t ∷ ts) p c = following-ready es (sorted_unique ss) (replicate (length es) false) t ts (rated k) (readings_in k) p c s

-- ---- a run of a prepared list
module _ (n : ℕ) (advance : Propagator) {Refuses : Conditions} (laws : KernelLaws n advance Refuses) (w : Window) (ss : List Float)
    (es : List Event) (given : Prepared n w ss es) (a : List Float) (fine : T (amounts_pass n a)) where
  pub begin-sound : Sound n (begin a)
  begin-sound = record { amounts = fine; rows = tt }

  -- a step that the run comes to is ready
  pub reached-ready : (xs : List Step) (x : Step) (rest : List Step) (z : State) → schedule n w ss es ≡ xs ++ (x ∷ rest)
      → run advance w.propagations (begin a) xs ≡ go z → Ready n w x
  reached-ready xs x rest z e r =
      along_at n advance w.propagations laws (Ready n w) xs x rest (begin a) z
      (subst (λ (l : List Step). Along n advance w.propagations laws (Ready n w) (begin a) l) e
      (schedule-ready n advance w.propagations laws w ss es (passed given) (begin a))) r

  pub first_met : (c : ℕ) (t : Float) → ((z : State) × (run_of advance n w ss es a ≡ stop c t z))
      ↔ FirstMet advance Refuses w.propagations (begin a) (schedule n w ss es) c t
  unfolding run_of
  first_met c t = (to, fro)
    where
      budget : ℕ
      budget = w.propagations

      to : ((z : State) × (run advance budget (begin a) (schedule n w ss es) ≡ stop c t z)) → FirstMet advance Refuses budget (begin a) (schedule n w ss es) c t
      to (z, e) =
          let f = stop_splits advance budget (schedule n w ss es) (begin a) c t z e in
          record {
            ahead = f.ahead;
            step = f.step;
            rest = f.rest;
            parts = f.parts;
            left = f.left;
            ran = f.ran;
            meets =
                step-meets n advance budget laws w f.left (run_sound n advance budget laws f.ahead (begin a) f.left begin-sound
                f.ran) f.step (reached-ready f.ahead f.step f.rest f.left f.parts f.ran) c t z f.refuses;
          }

      fro : FirstMet advance Refuses budget (begin a) (schedule n w ss es) c t → (z : State) × (run advance budget (begin a) (schedule n w ss es) ≡ stop c t z)
      fro f =
          let m = meets-stops n advance budget laws w f.left (run_sound n advance budget laws f.ahead (begin a) f.left begin-sound
          f.ran) (reached-ready f.ahead f.step f.rest f.left f.parts f.ran) f.meets in (
            m.0,
            split_stops advance budget (schedule n w ss es) (begin a) c t m.0 (record
                { ahead = f.ahead; step = f.step; rest = f.rest; parts = f.parts; left = f.left; ran = f.ran; refuses = m.1 }),
          )

  -- the number, in a cycle
  forward : {x : Step} {t : Float} {r : List Float} {u : Float} → Advances x t r u → Ready n w x → Forward n w t r u
  forward to_reading g = g
  forward to_boundary g = g

  number : {s : State} {x : Step} {c : ℕ} {t : Float} → Cycle w → Ready n w x → Meets Refuses w.propagations c t x s
      → T (one_of c stop_numbers)
  number k g (spent to h) = tt
  number k g (overflows {t = t} {u = u} to l h) = let p = forward to g in absurd (T_not (finite (sub binary64 u t)) h
      (lasts (passed given) t u k p.0 p.1 p.2))
  number k g (refuses {c = c} to l f h e) = on (eqb c 20) (eqb c 21) (eqb c 22) (one_of c (30 ∷ 31 ∷ 32 ∷ [])) h
    where
      on : (p q r z : Bool) → T (p || (q || (r || false))) → T (p || (q || (r || z)))
      on true q r z h = tt
      on false true r z h = tt
      on false false true z h = tt
      on false false false z h = absurd h
  number k g (state h) = tt
  number k g (dose h) = tt
  number k g (summed_rates h) = tt

  pub stop-numbers : Cycle w → (c : ℕ) (t : Float) (z : State) → run_of advance n w ss es a ≡ stop c t z → T (one_of c stop_numbers)
  stop-numbers k c t z e = let f = (first_met c t).0 (z, e) in number k (reached-ready f.ahead f.step f.rest f.left f.parts f.ran) f.meets

-- ---- the number of a condition is above 0
pub meets-above : {Refuses : Conditions} {budget c : ℕ} {t : Float} {x : Step} {s : State} → Meets Refuses budget c t x s → 0 < c
meets-above (spent to h) = omega arith
meets-above (overflows to l h) = omega arith
meets-above (refuses {c = c} to l f o h) = on c o
  where
    on : (c : ℕ) → T (one_of c advance_numbers) → 0 < c
    on zero o = absurd o
    on (suc c) o = omega arith
meets-above (state h) = omega arith
meets-above (dose h) = omega arith
meets-above (summed_rates h) = omega arith
