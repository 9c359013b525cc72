-- Marks kept in place: each event's mark grows by the stopping resets so far.
use mathlib.Core.Path.{◌≡◌, refl, ap, ap₂, sym, ◌∙◌}
use mathlib.Core.Bool.{Bool, true, false, ◌&&◌, ◌||◌}
use mathlib.Core.List.{List, [], ◌∷◌, ◌++◌, zip_with}
use Prim.Native.Nat.{ℕ, zero, suc, ◌+◌, ◌<◌, ◌≤◌}
use native.Mathlib.Nat.{not-suc-le-zero, le_of_suc-le-suc}
use native.Mathlib.Numerals.{add-one}
use native.Mathlib.Omega.{arith}
use lib.ListN.{length, get_or, set, take, drop, drop_of_length-le}
use lib.Seq.{take-suc}
use lib.Ieee.{Float, eq}
use Rattle.std.proofs.Common.{take_all}
use Rattle.std.proofs.lemmas.List.{append-nil}
use Rattle.binary64.specs.Lists.{any}
use Rattle.protocol.specs.Events.{target, running, marks}
use Rattle.protocol.specs.Schedule.{marked}
use Rattle.protocol.specs.declared.Event.{Event}
use Rattle.protocol.specs.declared.Event.TheVariants.{Bolus, Infusion, Reset}
use Rattle.events_at.specs.At.{stops_at, marked_by}
use Rattle.events_times.proofs.Either.{any_append, or_none, or_regroup}

module _ {A B : Type 0} where
  -- the first i elements of a list, zipped in place
  abbrev pub zipped : (A → B → B) → ℕ → List A → List B → List B
  zipped h zero xs ys = ys
  zipped h (suc i) [] ys = ys
  zipped h (suc i) (x ∷ xs) [] = []
  zipped h (suc i) (x ∷ xs) (y ∷ ys) = h x y ∷ zipped h i xs ys

  pub zipped_more : (h : A → B → B) (i : ℕ) (xs : List A) (ys : List B) (d : A) (z : B) → i < length xs → i < length ys
      → set (zipped h i xs ys) i (h (get_or xs i d) (get_or (zipped h i xs ys) i z)) ≡ zipped h (suc i) xs ys
  zipped_more h i [] ys d z p q = absurd (not-suc-le-zero p)
  zipped_more h i (x ∷ xs) [] d z p q = absurd (not-suc-le-zero q)
  zipped_more h zero (x ∷ xs) (y ∷ ys) d z p q = refl
  zipped_more h (suc i) (x ∷ xs) (y ∷ ys) d z p q = ap (◌∷◌ (h x y)) (zipped_more h i xs ys d z (le_of_suc-le-suc p) (le_of_suc-le-suc q))

  -- each element of a list zipped in place; the elements behind it stay
  abbrev pub over : (A → B → B) → List A → List B → List B
  over h [] ys = ys
  over h (x ∷ xs) [] = []
  over h (x ∷ xs) (y ∷ ys) = h x y ∷ over h xs ys

  pub zipped_all : (h : A → B → B) (xs : List A) (ys : List B) → zipped h (length xs) xs ys ≡ over h xs ys
  zipped_all h [] ys = refl
  zipped_all h (x ∷ xs) [] = refl
  zipped_all h (x ∷ xs) (y ∷ ys) = ap (◌∷◌ (h x y)) (zipped_all h xs ys)

  pub over_zip : (h : A → B → B) (xs : List A) (ys : List B) → over h xs ys ≡ zip_with h xs ys ++ drop (length xs) ys
  unfolding zip_with
  over_zip h [] ys = refl
  over_zip h (x ∷ xs) [] = refl
  over_zip h (x ∷ xs) (y ∷ ys) = ap (◌∷◌ (h x y)) (over_zip h xs ys)

  over_cong : (g h : A → B → B) → ((x : A) (y : B) → g x y ≡ h x y) → (xs : List A) (ys : List B) → over g xs ys ≡ over h xs ys
  over_cong g h e [] ys = refl
  over_cong g h e (x ∷ xs) [] = refl
  over_cong g h e (x ∷ xs) (y ∷ ys) = ap₂ ◌∷◌ (e x y) (over_cong g h e xs ys)

  over_twice : (g h : A → B → B) (xs : List A) (ys : List B) → over g xs (over h xs ys) ≡ over (λ x y. g x (h x y)) xs ys
  over_twice g h [] ys = refl
  over_twice g h (x ∷ xs) [] = refl
  over_twice g h (x ∷ xs) (y ∷ ys) = ap (◌∷◌ (g x (h x y))) (over_twice g h xs ys)

  over_same : (g : A → B → B) → ((x : A) (y : B) → g x y ≡ y) → (xs : List A) (ys : List B) → over g xs ys ≡ ys
  over_same g e [] ys = refl
  over_same g e (x ∷ xs) [] = refl
  over_same g e (x ∷ xs) (y ∷ ys) = ap₂ ◌∷◌ (e x y) (over_same g e xs ys)

  pub zip_length : (g : A → B → B) (xs : List A) (ys : List B) → length ys ≡ length xs → length (zip_with g xs ys) ≡ length ys
  unfolding zip_with
  zip_length g [] [] p = refl
  zip_length g [] (y ∷ ys) p = absurd (omega arith)
  zip_length g (x ∷ xs) [] p = refl
  zip_length g (x ∷ xs) (y ∷ ys) p = ap suc (zip_length g xs ys (omega arith))

and_done : (a b c : Bool) → a && b ≡ true → a && (b && c) ≡ c
and_done true true c e = refl
and_done true false c e = cc
and_done false b c e = cc

and_not : (a b c : Bool) → a && b ≡ false → a && (b && c) ≡ false
and_not true b c e = ap (λ (d : Bool). d && c) e
and_not false b c e = refl

marks-stop : (t : Float) (r e : Event) → stops_at t r ≡ true → marks t r e ≡ running t (target r) e
unfolding stops_at marks target
marks-stop t (Bolus s i a) e h = cc
marks-stop t (Infusion s i a d) e h = cc
marks-stop t (Reset s i v o c) e h = and_done (eq s t) c (running t i e) h

marks_not : (t : Float) (r e : Event) → stops_at t r ≡ false → marks t r e ≡ false
unfolding stops_at marks
marks_not t (Bolus s i a) e h = refl
marks_not t (Infusion s i a d) e h = refl
marks_not t (Reset s i v o c) e h = and_not (eq s t) c (running t i e) h

-- the marks of the first i events, behind a reset
abbrev pub marked_front : Float → ℕ → ℕ → List Event → List Bool → List Bool
marked_front t j i es ms = zipped (λ (e : Event) (m : Bool). m || running t j e) i es ms

pub marked_more : (t : Float) (j i : ℕ) (es : List Event) (ms : List Bool) (d : Event) {xs : List Bool} {v : Bool} → i < length es → length es ≤ length ms
    → v ≡ running t j (get_or es i d) → xs ≡ marked_front t j i es ms → set xs i (get_or xs i false || v) ≡ marked_front t j (i + 1) es ms
marked_more t j i es ms d {xs} h l p q =
    ap₂ (λ (ys : List Bool) (b : Bool). set ys i (get_or ys i false || b)) q p
    ∙ zipped_more (λ (e : Event) (m : Bool). m || running t j e) i es ms d false h (omega arith) ∙ rw add-one

pub marked_all : (t : Float) (j : ℕ) (es : List Event) (ms : List Bool)
    → marked_front t j (length es) es ms ≡ marked_by t j es ms ++ drop (length es) ms
unfolding marked_by
marked_all t j es ms =
    let h : Event → Bool → Bool = λ e m. m || running t j e in
    zipped_all h es ms ∙ over_zip h es ms

module _ (t : Float) (es : List Event) (ms : List Bool) where
  -- whether one of the first i events marks an event
  abbrev hit : ℕ → Event → Bool
  hit i e = any (λ (r : Event). marks t r e) (take i es)

  -- the marks behind the first i events
  unfoldable pub behind : ℕ → List Bool
  behind i = over (λ (e : Event) (m : Bool). m || hit i e) es ms

  hit_more : (i : ℕ) (d e : Event) → i < length es → hit (i + 1) e ≡ hit i e || marks t (get_or es i d) e
  hit_more i d e h =
      let p : Event → Bool = λ r. marks t r e in
      rw (add-one, take-suc es i d h) (any_append p (take i es) (get_or es i d ∷ []) ∙ ap (λ (b : Bool). hit i e || b) (or_none (marks t (get_or es i d) e)))

  pub behind-start : ms ≡ behind 0
  unfolding behind
  behind-start = sym (over_same (λ e m. m || hit 0 e) (λ e m. or_none m) es ms)

  pub behind_skip : (i : ℕ) (d : Event) {xs : List Bool} → i < length es → stops_at t (get_or es i d) ≡ false → xs ≡ behind i → xs ≡ behind (i + 1)
  unfolding behind
  behind_skip i d l h e =
      e ∙ over_cong (λ e m. m || hit i e) (λ e m. m || hit (i + 1) e)
      (λ e m. ap (λ (b : Bool). m || b) (sym (hit_more i d e l
      ∙ ap (λ (b : Bool). hit i e || b) (marks_not t (get_or es i d) e h) ∙ or_none (hit i e)))) es ms

  pub behind_more : (i j : ℕ) (d : Event) {xs ys : List Bool} → i < length es → stops_at t (get_or es i d) ≡ true → j ≡ target (get_or es i d) → xs ≡ behind i
      → ys ≡ marked_by t j es xs ++ drop (length es) xs → ys ≡ behind (i + 1)
  unfolding behind marked_by
  behind_more i j d {xs} l h g e q =
      q ∙ sym (over_zip (λ (e : Event) (m : Bool). m || running t j e) es xs)
      ∙ ap₂ (λ (n : ℕ) (zs : List Bool). over (λ (e : Event) (m : Bool). m || running t n e) es zs) g e
      ∙ over_twice (λ e m. m || running t (target (get_or es i d)) e) (λ e m. m || hit i e) es ms
      ∙ over_cong (λ e m. (m || hit i e) || running t (target (get_or es i d)) e) (λ e m. m || hit (i + 1) e)
      (λ e m. or_regroup m (hit i e) (running t (target (get_or es i d)) e)
      ∙ ap (λ (b : Bool). m || b) (sym (hit_more i d e l ∙ ap (λ (b : Bool). hit i e || b)
      (marks-stop t (get_or es i d) e h)))) es ms

  pub behind-all : {xs : List Bool} → xs ≡ behind (length es) → xs ≡ marked t es ms ++ drop (length es) ms
  unfolding behind marked
  behind-all e =
      let h : List Event → Event → Bool → Bool = λ rs e m. m || any (λ (r : Event). marks t r e) rs in
      e ∙ ap (λ (rs : List Event). over (h rs) es ms) (take_all (length es) es (omega arith)) ∙ over_zip (h es) es ms

-- with one mark an event there are no others
pub marked_exactly : (t : Float) (es : List Event) (ms : List Bool) {ns : List Bool} → length ms ≡ length es
    → ns ≡ marked t es ms ++ drop (length es) ms → ns ≡ marked t es ms
marked_exactly t es ms l e = e ∙ rw (drop_of_length-le ms (few l), append-nil)
  where
    few : length ms ≡ length es → length ms ≤ length es
    few l = omega arith
