-- The times of a run whose list is prepared: boundaries and samples lie in the window and rise strictly; rates are at or above 0; an
-- advance lasts a time above 0, in a cycle a finite one.
-- Assumes nothing.
use mathlib.Core.Path.{◌≡◌}
use Prim.Native.Nat.{ℕ, ◌*◌, ◌≤◌, ◌<◌}
use native.Mathlib.Nat.{le_refl, le_trans, le_of_lt}
use native.Mathlib.Omega.{arith}
use mathlib.Core.Bool.{Bool, true, false, not, cond, ◌&&◌}
use mathlib.Core.List.{List, [], ◌∷◌}
use mathlib.Core.Option.{some, none}
use lib.Dec.{T, leb, ltb, not_T}
use lib.ListN.{length}
use lib.Ieee.{Float, nan, inf, fin, binary64, add, sub, div, lt, le, eq, fits, is_nan}
use lib.Ieee.Fits.{add-fits, sub-fits}
use lib.Ieee.Scale.{finite}
use Rattle.binary64.specs.Doubles.{plus_zero, nonnegative, positive, total_le}
use Rattle.binary64.specs.Sort.{sort_by, firsts_from, firsts}
use Rattle.binary64.proofs.Units.{spot, Good}
use Rattle.binary64.proofs.Order.{lt→spot, le→spot, eq→spot, spot→le, not_nan, Real, real_good}
use Rattle.binary64.proofs.Differences.{sub_finite, sub-positive}
use Rattle.binary64.proofs.Signs.{at_least_zero, div_at_least_zero}
use Rattle.binary64.proofs.Sorted.{All, Chain, sort_all, strict_times}
use Rattle.protocol.specs.declared.Event.{Event}
use Rattle.protocol.specs.declared.Event.TheVariants.{Bolus, Infusion, Reset}
use Rattle.protocol.specs.declared.Window.{Window}
use Rattle.binary64.specs.Lists.{all, flat_map}
use Rattle.protocol.specs.First.{unless, first_of}
use Rattle.protocol.specs.Events.{time, target, instants, sorted_unique, boundary_times, boundaries}
use Rattle.protocol.specs.Prepare.{window_passes, within, event_passes, events_pass, reckoned, validate, prepare}
use Rattle.protocol.specs.Schedule.{infusion_rate}
use Rattle.protocol.specs.PlainRun.{Prepared, Cycle}
use Rattle.protocol.proofs.ListLaws.{both, and_T, all→All, All-map, All-append, All-both}

-- a double in the window
pub record Inner (w : Window) (t : Float) : Type 0 where
  pub real : Real binary64 t
  pub from_start : T (le w.start t)
  pub to_end : T (le t w.end)

pub good : {w : Window} {t : Float} → Inner w t → Good binary64 t
good h = real_good h.real

-- ---- what the preparation gives
refused_none : {c : ℕ} → some c ≡ none → ⊥
refused_none q = let z : ◌≡◌ {A = ℕ} 0 1 = cc in omega arith

five_pass : (a b c d e : Bool) → first_of (unless a 13 ∷ first_of (unless b 10 ∷ unless c 11 ∷ unless d 12 ∷ []) ∷ unless e 14 ∷ []) ≡ none
    → T a × T b × T c × T d × T e
five_pass true true true true true q = (tt, tt, tt, tt, tt)
five_pass true true true true false q = absurd (refused_none q)
five_pass true true true false e q = absurd (refused_none q)
five_pass true true false d e q = absurd (refused_none q)
five_pass true false c d e q = absurd (refused_none q)
five_pass false b c d e q = absurd (refused_none q)

-- between finite ones
between : (t x z : Float) → T (finite t) → T (finite z) → T (lt t x) → T (le x z) → T (finite x)
unfolding lt le eq
between t (fin s m e) z p q h k = tt
between nan nan z p q h k = absurd p
between (inf a) nan z p q h k = absurd p
between (fin a m e) nan z p q h k = absurd h
between t (inf true) nan p q h k = absurd q
between t (inf false) nan p q h k = absurd q
between t (inf true) (inf b) p q h k = absurd q
between t (inf false) (inf b) p q h k = absurd q
between nan (inf true) (fin b m e) p q h k = absurd p
between (inf a) (inf true) (fin b m e) p q h k = absurd p
between (fin a n d) (inf true) (fin b m e) p q h k = absurd h
between t (inf false) (fin b m e) p q h k = absurd k

inner : (w : Window) (t : Float) → T (fits binary64 t) → T (within w t) → Inner w t
inner w t f h =
    let a = both (finite t) (le w.start t && le t w.end) h in
    let b = both (le w.start t) (le t w.end) a.1 in
    record { real = record { fit = f; is_finite = a.0 }; from_start = b.0; to_end = b.1 }

-- an infusion's rate is at or above 0
abbrev pub Rated : Event → Type 0
Rated e = T (at_least_zero (infusion_rate e))

-- an event's instants lie in the window
abbrev pub Fine : Window → Event → Type 0
Fine w e = All (Inner w) (instants e) × Rated e

-- what lies behind t and not behind the end lies in the window
behind_inner : (w : Window) (t x : Float) → Real binary64 w.start → Real binary64 w.end → Inner w t → T (fits binary64 x) → T (lt t x)
    → T (le x w.end) → Inner w x
behind_inner w t x s e h f l k =
    let r : Real binary64 x = record { fit = f; is_finite = between t x w.end h.real.is_finite e.is_finite l k } in
    let a : spot binary64 w.start ≤ spot binary64 t = le→spot binary64 w.start t (real_good s) (good h) h.from_start in
    let b : spot binary64 t < spot binary64 x = lt→spot binary64 t x (good h) (real_good r) l in
    record { real = r; from_start = spot→le binary64 w.start x (real_good s) (real_good r) (le_trans a (le_of_lt b)); to_end = k }

module _ (n : ℕ) (w : Window) (start-real : Real binary64 w.start) (end-real : Real binary64 w.end) where
  fine : (seen : List Event) (e : Event) → T (fits binary64 (time e)) → T (event_passes n w seen e) → Fine w e
  unfolding target infusion_rate
  fine seen (Bolus t i a) h k =
      let p = both (within w t) (ltb i n && nonnegative a) k in
      ((inner w t h p.0, tt), tt)
  fine seen (Infusion t i a d) h k =
      let x = add binary64 t d in
      let p = both (within w t) _ k in
      let q = both (ltb i n) _ p.1 in
      let r = both (nonnegative a) _ q.1 in
      let u = both (positive d) _ r.1 in
      let v = both (lt t x) _ u.1 in
      let y = both (le x w.end) (finite (div binary64 a d)) v.1 in
      let g = inner w t h p.0 in
      ((g, (behind_inner w t x start-real end-real g (add-fits binary64 t d) v.0 y.0, tt)), div_at_least_zero binary64 a d r.0 u.0)
  fine seen (Reset t i v o c) h k =
      let p = both (within w t) _ k in
      ((inner w t h p.0, tt), tt)

  fines : (seen es : List Event) → All (λ (e : Event). T (fits binary64 (time e))) es → T (events_pass n w seen es) → All (Fine w) es
  fines seen [] h k = tt
  fines seen (x ∷ xs) h k =
      let p = both (event_passes n w seen x) (events_pass n w (x ∷ seen) xs) k in
      (fine seen x h.0 p.0, fines (x ∷ seen) xs h.1 p.1)

gathered : (w : Window) (es : List Event) → All (Fine w) es → All (Inner w) (flat_map instants es)
gathered w [] h = tt
gathered w (e ∷ es) h = All-append (Inner w) (instants e) (flat_map instants es) h.0.0 (gathered w es h.1)

-- the facts in one place
pub record Passed (w : Window) (ss : List Float) (es : List Event) : Type 0 where
  pub start_in : Inner w w.start
  pub end_in : Inner w w.end
  pub samples_in : All (Inner w) ss
  pub events_fine : All (Fine w) es

pub passed : {n : ℕ} {w : Window} {ss : List Float} {es : List Event} → Prepared n w ss es → Passed w ss es
unfolding prepare validate
passed {n} {w} {ss} {es} h =
    let v = five_pass (leb (length es) w.events) (window_passes w) (all (within w) ss) (events_pass n w [] es)
    (leb (reckoned ss es * n) w.outputs) h.passes in
    let p = both (finite w.start) _ v.1 in
    let q = both (finite w.end) _ p.1 in
    let r = both (lt w.start w.end) _ q.1 in
    let s : Real binary64 w.start = record { fit = h.start_fits; is_finite = p.0 } in
    let e : Real binary64 w.end = record { fit = h.end_fits; is_finite = q.0 } in
    let up : spot binary64 w.start < spot binary64 w.end = lt→spot binary64 w.start w.end (real_good s) (real_good e) r.0 in
    let rises = spot→le binary64 w.start w.end (real_good s) (real_good e) (le_of_lt up) in
    record {
      start_in =
          record {
            real = s;
            from_start = spot→le binary64 w.start w.start (real_good s) (real_good s)
                (le_refl (spot binary64 w.start));
            to_end = rises;
          };
      end_in =
          record {
            real = e;
            from_start = rises;
            to_end = spot→le binary64 w.end w.end (real_good e) (real_good e)
                (le_refl (spot binary64 w.end));
          };
      samples_in =
          All-map (λ (x : Float) (k : T (fits binary64 x) × T (within w x)). inner w x k.0 k.1) ss
          (All-both (λ (x : Float). T (fits binary64 x)) (λ (x : Float). T (within w x)) ss (all→All (fits binary64) ss h.samples_fit)
          (all→All (within w) ss v.2));
      events_fine = fines n w s e [] es (all→All (λ (x : Event). fits binary64 (time x)) es h.times_fit) v.3;
    }

-- ---- sorted, each once
firsts_from-all : (G : Float → Type 0) (x : Float) (ys : List Float) → G x → All G ys → All G (firsts_from eq x ys)
unfolding firsts_from
firsts_from-all G x [] g h = (g, tt)
firsts_from-all G x (y ∷ ys) g h = on (eq x y) (firsts_from-all G x ys g h.1) (firsts_from-all G y ys h.0 h.1)
  where
    on : (b : Bool) → All G (firsts_from eq x ys) → All G (firsts_from eq y ys) → All G (cond b (firsts_from eq x ys) (x ∷ firsts_from eq y ys))
    on true p q = p
    on false p q = (g, q)

firsts-all : (G : Float → Type 0) (xs : List Float) → All G xs → All G (firsts eq xs)
unfolding firsts
firsts-all G [] h = tt
firsts-all G (x ∷ xs) h = firsts_from-all G x xs h.0 h.1

pub sorted_unique-all : (G : Float → Type 0) (xs : List Float) → All G xs → All G (sorted_unique xs)
unfolding sorted_unique
sorted_unique-all G xs h = firsts-all G (sort_by total_le xs) (sort_all total_le G xs h)

sorted_unique_rises : (w : Window) (xs : List Float) → All (Inner w) xs → Chain lt (sorted_unique xs)
unfolding sorted_unique
sorted_unique_rises w xs h = strict_times binary64 xs (All-map (λ (x : Float) (k : Inner w x). good k) xs h)

module _ {w : Window} {ss : List Float} {es : List Event} (k : Passed w ss es) where
  pub times_in : All (Inner w) (boundary_times w.start w.end es)
  times_in = (k.start_in, (k.end_in, gathered w es k.events_fine))

  pub boundaries_in : All (Inner w) (boundaries w es)
  unfolding boundaries
  boundaries_in = sorted_unique-all (Inner w) (boundary_times w.start w.end es) times_in

  pub boundaries_rise : Chain lt (boundaries w es)
  unfolding boundaries
  boundaries_rise = sorted_unique_rises w (boundary_times w.start w.end es) times_in

  pub readings_in : All (Inner w) (sorted_unique ss)
  readings_in = sorted_unique-all (Inner w) ss k.samples_in

  pub rated : All Rated es
  rated = All-map (λ (e : Event) (h : Fine w e). h.1) es k.events_fine

  -- ---- from t to u: above 0, and finite in a cycle
  pub lasts : (t u : Float) → Cycle w → Inner w t → Inner w u → T (lt t u) → T (finite (sub binary64 u t))
  lasts t u c p q h = sub_finite binary64 w.start t u w.end k.start_in.real p.real q.real k.end_in.real p.from_start h q.to_end c

-- an advance that goes forward: its duration is above 0, so it passes where it is finite
module _ {w : Window} (t u : Float) (p : Inner w t) (q : Inner w u) (h : T (lt t u)) (f : T (finite (sub binary64 u t))) where
  d : Good binary64 (sub binary64 u t)
  unfolding fits is_nan
  d = (sub-fits binary64 u t, not_nan (sub binary64 u t) f)

  zero_good : Good binary64 plus_zero
  unfolding fits is_nan
  zero_good = (tt, tt)

  above : spot binary64 plus_zero < spot binary64 (sub binary64 u t)
  above = lt→spot binary64 plus_zero (sub binary64 u t) zero_good d (sub-positive binary64 u t q.real p.real h)

  pub duration : T (nonnegative (sub binary64 u t))
  duration =
      and_T (finite (sub binary64 u t)) (not (lt (sub binary64 u t) plus_zero)) f
      (not_T (lt (sub binary64 u t) plus_zero) (λ l. omega (arith, above, lt→spot binary64 (sub binary64 u t) plus_zero d zero_good l)))

  pub not_zero : T (not (eq (sub binary64 u t) plus_zero))
  not_zero = not_T (eq (sub binary64 u t) plus_zero) (λ e. omega (arith, above, eq→spot binary64 (sub binary64 u t) plus_zero d zero_good e))
