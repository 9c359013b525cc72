-- The fold: an event gives at most three pieces, each at its own time or at the start; what is folded passes 10, 11 and 12 again, and so
-- does its zeroed form. Assumes nothing.
use mathlib.Core.Path.{◌≡◌, refl, sym, ap, ap₂, ◌∙◌, subst}
use Prim.Native.Nat.{ℕ, zero, suc, ◌+◌, ◌*◌, ◌^◌, ◌≤◌, ◌<◌}
use native.Mathlib.Nat.{mul-pos, zero-lt-suc, zero-mul}
use native.Mathlib.Omega.{arith}
use mathlib.Core.Bool.{Bool, true, false, not, cond, ◌&&◌, ◌||◌}
use mathlib.Core.List.{List, [], ◌∷◌, ◌++◌}
use lib.Dec.{T, leb, ltb, eqb, ltb→lt, eqb-suc-zero}
use lib.ListN.{length, length-append}
use lib.Ieee.{Float, nan, inf, fin, Format, binary64, up, down, round, add, sub, div, lt, le, fits, unlike}
use lib.Ieee.Fits.{up_pos}
use lib.Ieee.Exact.{HasValue}
use lib.Ieee.Scale.{finite}
use Rattle.binary64.specs.Doubles.{plus_zero, one, nonnegative, positive, floor_of}
use Rattle.binary64.specs.Lists.{any, all, pick}
use Rattle.refusal.specs.Result.{Result, refused, done, unless}
use Rattle.protocol.specs.declared.Event.{Event}
use Rattle.protocol.specs.declared.Event.TheVariants.{Bolus, Infusion, Reset}
use Rattle.protocol.specs.declared.Window.{Window}
use Rattle.protocol.specs.First as F
use Rattle.protocol.specs.Events.{time, target}
use Rattle.protocol.specs.Prepare.{window_passes, within, same_reset, event_passes, events_pass, reckoned, validate, prepare}
use Rattle.protocol.proofs.ListLaws.{both, and_T}
use Rattle.cycle.specs.Fold.{period, cycle_passes, count_passes, time_passes, infusion_passes, stopping, stop_of, whole, piece, tail}
use Rattle.cycle.specs.Fold.{parts, whole_periods, infusion_pieces, pieces, with_event, with_events, passing, fold}
use Rattle.cycle.specs.Closed.{divided, zeroed, homogeneous}
use Rattle.cycle.specs.FoldLaws.{budget_number, EveryFold}
use Rattle.cycle.proofs.Rounding.{zero_value}
use Rattle.cycle.proofs.Results.{Gives, gives_then, gives_test, gives_last, gives_done, gives_number}

-- ---- the pieces of an event at t: at most k, and their times are doubles
abbrev pub time_fits : Event → Bool
time_fits e = fits binary64 (time e)

record Few (k : ℕ) (w : Window) (t : Float) (ps : List Event) : Type 0 where
  few : length ps ≤ k
  times : T (fits binary64 w.start) → T (fits binary64 t) → T (all time_fits ps)

module _ (w : Window) (t : Float) (i : ℕ) (r : Float) where
  tail-few : (l : Float) → Few 1 w t (tail w i r l)
  tail-few l = on (lt plus_zero l)
    where
      on : (b : Bool) → Few 1 w t (pick b (piece w.start i r l) [])
      on true = record { few = omega arith; times = λ s _. and_T (fits binary64 w.start) true s tt }
      on false = record { few = omega arith; times = λ _ _. tt }

  parts-few : (left : Float) → Few 2 w t (parts w t i r left)
  unfolding parts
  parts-few left = on (lt plus_zero left) _ _ (tail-few _)
    where
      on : (b : Bool) (h : Float) (ps : List Event) → Few 1 w t ps → Few 2 w t (cond b (piece t i r h ∷ ps) [])
      on true h ps k = record { few = omega arith; times = λ s f. and_T (fits binary64 t) (all time_fits ps) f (k.times s f) }
      on false h ps k = record { few = omega arith; times = λ _ _. tt }

  wholes_few : (left c : Float) → Few 3 w t (whole_periods w t i r left c)
  unfolding whole_periods
  wholes_few left c = on (le one c) _ _ (parts-few _) (parts-few left)
    where
      on : (b : Bool) (ps qs : List Event) → Few 2 w t ps → Few 2 w t qs → Few 3 w t (cond b (whole w i r c ∷ ps) qs)
      on true ps qs h k = record { few = omega arith; times = λ s f. and_T (fits binary64 w.start) (all time_fits ps) s (h.times s f) }
      on false ps qs h k = record { few = omega arith; times = k.times }

-- ---- the fold's numbers
abbrev pub folding : List ℕ
folding = 10 ∷ 11 ∷ 12 ∷ 13 ∷ 15 ∷ 16 ∷ 17 ∷ 18 ∷ []

single-few : (w : Window) (e : Event) → Few 3 w (time e) (e ∷ [])
single-few w e = record { few = omega arith; times = λ _ f. and_T (time_fits e) true f tt }

pieces-few : (w : Window) (es : List Event) (e : Event) → Gives folding (Few 3 w (time e)) (pieces w es e)
unfolding pieces infusion_pieces
pieces-few w es (Bolus t i a) = single-few w (Bolus t i a)
pieces-few w es (Reset t i v o c) = single-few w (Reset t i v o c)
pieces-few w es (Infusion t i a d) =
    gives_test folding (Few 3 w t) (infusion_passes t a d) 17 (stop_of (period w) t i (add binary64 t d) es)
    (λ stop. infusion_pieces (any (stopping i) es) w t i (div binary64 a d) (sub binary64 stop t)) tt
    (λ _. on (any (stopping i) es) (sub binary64 (stop_of (period w) t i (add binary64 t d) es) t))
  where
    on : (b : Bool) (left : Float) → Gives folding (Few 3 w t) (infusion_pieces b w t i (div binary64 a d) left)
    on true left = let h = parts-few w t i (div binary64 a d) left in record { few = omega arith; times = h.times }
    on false left =
        let c = floor_of (div binary64 left (period w)) in
        gives_last folding (Few 3 w t) (finite c) 18 (whole_periods w t i (div binary64 a d) left c) tt (λ _. wholes_few w t i (div binary64 a d) left c)

-- ---- the list so far
all_append : {A : Type 0} (p : A → Bool) (xs ys : List A) → T (all p xs) → T (all p ys) → T (all p (xs ++ ys))
all_append p [] ys h k = k
all_append p (x ∷ xs) ys h k = let q = both (p x) (all p xs) h in and_T (p x) (all p (xs ++ ys)) q.0 (all_append p xs ys q.1 k)

-- the list fs, made of `so_far` and of the pieces of `rest`
record Made (w : Window) (rest so_far fs : List Event) : Type 0 where
  few : length fs ≤ length so_far + 3 * length rest
  times : T (fits binary64 w.start) → T (all time_fits rest) → T (all time_fits so_far) → T (all time_fits fs)

event_made : (w : Window) (es : List Event) (e : Event) (so_far : List Event) → Gives folding (Made w (e ∷ []) so_far) (with_event w es e so_far)
unfolding with_event
event_made w es e so_far =
    gives_test folding (Made w (e ∷ []) so_far) (time_passes w (time e)) 16 e _ tt
    (λ _. gives_then folding (Made w (e ∷ []) so_far) (Few 3 w (time e)) (pieces w es e) _ (pieces-few w es e)
    (λ ps h. gives_last folding (Made w (e ∷ []) so_far) (count_passes w (so_far ++ ps)) 13 (so_far ++ ps) tt
    (λ _. record {
      few = simp length-append (omega (arith, h.few));
      times = λ s f g. all_append time_fits so_far ps g (h.times s (both (time_fits e) true f).0);
    })))

events-made : (w : Window) (es rest so_far : List Event) → Gives folding (Made w rest so_far) (with_events w es rest so_far)
unfolding with_events
events-made w es [] so_far = record { few = omega arith; times = λ _ _ g. g }
events-made w es (e ∷ rest) so_far =
    gives_then folding (Made w (e ∷ rest) so_far) (Made w (e ∷ []) so_far) (with_event w es e so_far) (λ d. with_events w es rest d) (event_made w es e so_far)
    (λ d h. more (with_events w es rest d) d h (events-made w es rest d))
  where
    more : (r : Result (List Event)) (d : List Event) → Made w (e ∷ []) so_far d → Gives folding (Made w rest d) r → Gives folding (Made w (e ∷ rest) so_far) r
    more (refused c) d h k = k
    more (done fs) d h k = record {
      few = omega arith;
      times = λ s f g. let q = both (time_fits e) (all time_fits rest) f in k.times s q.1 (h.times s (and_T (time_fits e) true q.0 tt) g);
    }

-- ---- what the fold accepts
pub record Folded (n : ℕ) (w : Window) (es fs : List Event) : Type 0 where
  pub cycle : T (cycle_passes w)
  pub few : length fs ≤ 3 * length es
  pub times : T (fits binary64 w.start) → T (all time_fits es) → T (all time_fits fs)
  pub window_passes_lem : T (window_passes w)
  pub events_pass_lem : T (events_pass n w [] fs)

pub fold_gives : (n : ℕ) (w : Window) (ss : List Float) (es : List Event) → Gives folding (Folded n w es) (fold n w ss es)
unfolding fold validate
fold_gives n w ss es =
    gives_test folding G (cycle_passes w) 15 es _ tt
    (λ c. gives_test folding G (count_passes w es) 13 es _ tt
    (λ _. gives_then folding G (Made w es []) (with_events w es es []) (λ fs. passing (validate n w ss fs) fs) (events-made w es es [])
    (λ fs h. three (window_passes w) (all (within w) ss) (events_pass n w [] fs) fs
    (λ p q. record { cycle = c; few = omega arith; times = λ s f. h.times s f tt; window_passes_lem = p; events_pass_lem = q }))))
  where
    G : List Event → Type 0
    G = Folded n w es

    -- 10, 11, 12, or what holds of the list
    three : (a b c : Bool) (fs : List Event) → (T a → T c → G fs)
        → Gives folding G (passing (F.first_of (F.unless a 10 ∷ F.unless b 11 ∷ F.unless c 12 ∷ [])) fs)
    three true true true fs h = h tt tt
    three true true false fs h = tt
    three true false c fs h = tt
    three false b c fs h = tt

module _ (n : ℕ) (w : Window) (ss : List Float) (es fs : List Event) (q : fold n w ss es ≡ done fs) where
  pub folded : Folded n w es fs
  folded = gives_done folding (Folded n w es) (fold n w ss es) fs (fold_gives n w ss es) q

-- ---- the divided budgets change no test of the events
divided_event : (n k : ℕ) (w : Window) (seen : List Event) (e : Event) → event_passes n (divided k w) seen e ≡ event_passes n w seen e
unfolding divided
divided_event n k w seen (Bolus t i a) = refl
divided_event n k w seen (Infusion t i a d) = refl
divided_event n k w seen (Reset t i v o c) = refl

divided-events : (n k : ℕ) (w : Window) (seen es : List Event) → events_pass n (divided k w) seen es ≡ events_pass n w seen es
divided-events n k w seen [] = refl
divided-events n k w seen (e ∷ es) = ap₂ ◌&&◌ (divided_event n k w seen e) (divided-events n k w (e ∷ seen) es)

-- ---- zeroed: 0 over a duration is finite
has_finite : (x : Float) (s : Bool) (a c : ℕ) → HasValue x s a c → T (finite x)
has_finite nan s a c v = absurd v
has_finite (inf t) s a c v = absurd v
has_finite (fin t m e) s a c v = tt

zero-over : (f : Format) (d : Float) → T (positive d) → T (finite (div f plus_zero d))
unfolding div lt
zero-over f nan h = absurd h
zero-over f (inf s) h = absurd h
zero-over f (fin true m e) h = absurd h
zero-over f (fin false zero e) h = absurd (no (ltb→lt (0 * down e) (0 * up e * 1) h))
  where
    no : 0 * down e < 0 * up e * 1 → ⊥
    no p = omega (arith, let z : 0 * up e * 1 ≡ 0 = simp zero-mul in z)
zero-over f (fin false (suc m) e) h =
    subst (λ (b : Bool). T (finite (cond b (cond (eqb 0 0) nan (inf (unlike false false)))
    (round f (unlike false false) (0 * 2 ^ 0 * down e) (suc m * up e * 1))))) (sym (eqb-suc-zero m))
    (has_finite (round f false (0 * 2 ^ 0 * down e) (suc m * up e * 1)) false 0 (suc m * up e * 1)
    (zero_value f false (0 * 2 ^ 0 * down e) (suc m * up e * 1) (simp zero-mul) (mul-pos (mul-pos (zero-lt-suc m) (up_pos e))
    (zero-lt-suc 0))))

zeroed_reset : (t : Float) (o : ℕ) (seen : List Event) → any (same_reset t o) (homogeneous seen) ≡ any (same_reset t o) seen
unfolding homogeneous zeroed
zeroed_reset t o [] = refl
zeroed_reset t o (Bolus s i a ∷ seen) = zeroed_reset t o seen
zeroed_reset t o (Infusion s i a d ∷ seen) = zeroed_reset t o seen
zeroed_reset t o (Reset s i v q c ∷ seen) = ap (λ (b : Bool). same_reset t o (Reset s i v q c) || b) (zeroed_reset t o seen)

-- one part of a test of several put for another
swap_test : (a b c d : Bool) → (T c → T d) → T (a && (b && c)) → T (a && (b && d))
swap_test true true c d f h = f h
swap_test true false c d f h = h
swap_test false b c d f h = h

zeroed_event : (n : ℕ) (w : Window) (seen : List Event) (e : Event) → T (event_passes n w seen e) → T (event_passes n w (homogeneous seen) (zeroed e))
unfolding zeroed target lt
zeroed_event n w seen (Bolus t i a) h = swap_test (within w t) (ltb i n) (nonnegative a) true (λ _. tt) h
zeroed_event n w seen (Infusion t i a d) h = swap_test (within w t) (ltb i n) _ _ on h
  where
    x : Float
    x = add binary64 t d

    on : T (nonnegative a && (positive d && (lt t x && (le x w.end && finite (div binary64 a d)))))
        → T (positive d && (lt t x && (le x w.end && finite (div binary64 plus_zero d))))
    on h =
        let p = both (nonnegative a) _ h in
        let q = both (positive d) _ p.1 in
        and_T (positive d) _ q.0 (swap_test (lt t x) (le x w.end) (finite (div binary64 a d)) (finite (div binary64 plus_zero d))
        (λ _. zero-over binary64 d q.0) q.1)
zeroed_event n w seen (Reset t i v o c) h =
    swap_test (within w t) (ltb i n) (finite v && not (any (same_reset t o) seen)) (not (any (same_reset t o) (homogeneous seen)))
    (λ g. subst (λ (b : Bool). T (not b)) (sym (zeroed_reset t o seen)) (both (finite v) _ g).1) h

pub zeroed-events : (n : ℕ) (w : Window) (seen es : List Event) → T (events_pass n w seen es) → T (events_pass n w (homogeneous seen) (homogeneous es))
unfolding homogeneous
zeroed-events n w seen [] h = tt
zeroed-events n w seen (e ∷ es) h =
    let p = both (event_passes n w seen e) (events_pass n w (e ∷ seen) es) h in
    and_T (event_passes n w (homogeneous seen) (zeroed e)) (events_pass n w (homogeneous (e ∷ seen)) (homogeneous es))
    (zeroed_event n w seen e p.0) (zeroed-events n w (e ∷ seen) es p.1)

pub zeroed-length : (es : List Event) → length (homogeneous es) ≡ length es
unfolding homogeneous
zeroed-length [] = refl
zeroed-length (e ∷ es) = ap suc (zeroed-length es)

pub zeroed-times : (es : List Event) → all time_fits (homogeneous es) ≡ all time_fits es
unfolding homogeneous zeroed
zeroed-times [] = refl
zeroed-times (Bolus t i a ∷ es) = ap (◌&&◌ (fits binary64 t)) (zeroed-times es)
zeroed-times (Infusion t i a d ∷ es) = ap (◌&&◌ (fits binary64 t)) (zeroed-times es)
zeroed-times (Reset t i v o c ∷ es) = ap (◌&&◌ (fits binary64 t)) (zeroed-times es)

-- ---- an inner preparation
only_budgets : (a b c d e : Bool) → T b → T c → T d
    → F.first_of (F.unless a 13 ∷ F.first_of (F.unless b 10 ∷ F.unless c 11 ∷ F.unless d 12 ∷ []) ∷ F.unless e 14 ∷ []) ≡ F.first_of (F.unless a 13 ∷ F.unless e 14 ∷ [])
only_budgets false b c d e B C D = refl
only_budgets true false c d e B C D = absurd B
only_budgets true true false d e B C D = absurd C
only_budgets true true true false e B C D = absurd D
only_budgets true true true true e B C D = refl

inner : (n k : ℕ) (w : Window) (es : List Event) → T (window_passes w) → T (events_pass n w [] es)
    → prepare n (divided k w) [] es ≡ budget_number n (divided k w) es
unfolding prepare validate divided
inner n k w es h p =
    only_budgets (leb (length es) (divided k w).events) (window_passes w) true (events_pass n (divided k w) [] es)
    (leb (reckoned [] es * n) (divided k w).outputs) h tt (subst T (sym (divided-events n k w [] es)) p)

pub folded-passes : (n k : ℕ) (w : Window) (es fs : List Event) → Folded n w es fs → prepare n (divided k w) [] fs ≡ budget_number n (divided k w) fs
folded-passes n k w es fs f = inner n k w fs f.window_passes_lem f.events_pass_lem

-- the zeroed list's is the folded one's
pub zeroed-passes : (n k : ℕ) (w : Window) (es fs : List Event) → Folded n w es fs → prepare n (divided k w) [] (homogeneous fs) ≡ prepare n (divided k w) [] fs
unfolding homogeneous
zeroed-passes n k w es fs f =
    inner n k w (homogeneous fs) f.window_passes_lem (zeroed-events n w [] fs f.events_pass_lem)
    ∙ ap (λ (x : ℕ). F.first_of (F.unless (leb x (divided k w).events) 13 ∷ F.unless (leb ((4 * x + 0 + 2) * n) (divided k w).outputs) 14
    ∷ [])) (zeroed-length fs)
    ∙ sym (folded-passes n k w es fs f)

pub every_fold : EveryFold
every_fold n w ss es = record {
  numbers = λ c q. gives_number folding (Folded n w es) (fold n w ss es) c (fold_gives n w ss es) q;
  pieces = λ fs q. (folded n w ss es fs q).few;
  passes = λ fs q k. folded-passes n k w es fs (folded n w ss es fs q);
  zeroed-passes = λ fs q k. zeroed-passes n k w es fs (folded n w ss es fs q);
}
