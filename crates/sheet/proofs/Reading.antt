-- The reader's answer, test by test.
use mathlib.Core.Path.{◌≡◌, refl, sym, ap, ap₂, ◌∙◌, subst}
use mathlib.Core.Bool.{Bool, true, false, ◌&&◌}
use mathlib.Core.List.{List, [], ◌∷◌}
use Prim.Native.Nat.{ℕ, suc, ◌-◌, ◌/◌, ◌≤◌}
use native.Mathlib.Omega.{arith}
use borrow.Author.Tests.{leb-true}
use lib.Dec.{T, eqb, leb}
use lib.ListN.{length}
use Rattle.limits.specs.Limits.{most_cycle_events, most_samples, event_size}
use Rattle.refusal.specs.Result.{Result, refused, done, and_then, unless, number}
use Rattle.sheet.specs.Sheet.{words_of, word, follow, placed, Sheet, sheet_of, bodies_fit, words_fit, within_limits, read_sheet}
use Rattle.sheet.specs.Reader.{places_of, Located}
use Rattle.sheet_words.specs.declared.Places.{Places}
use Rattle.sheet.proofs.Places.{words-length, located, body-length}

abbrev answer : Bool → Sheet → Result Sheet
answer fit s = and_then (unless fit 40 s) (λ (x : Sheet). unless (within_limits x) 5 x)

module _ (bs : List ℕ) where
  -- the two tests of the head, and that of the bodies
  by_tests : {a b : Bool} → words_fit bs && placed (words_of bs) ≡ a → bodies_fit (sheet_of (words_of bs)) ≡ b
      → read_sheet bs ≡ answer (a && b) (sheet_of (words_of bs))
  unfolding read_sheet
  by_tests {a} {b} p q = ap (λ (f : Bool). answer f (sheet_of (words_of bs))) (regroup (words_fit bs) (placed (words_of bs))
      (bodies_fit (sheet_of (words_of bs))) ∙ ap₂ ◌&&◌ p q)
    where
      regroup : (x y z : Bool) → x && (y && z) ≡ (x && y) && z
      regroup true y z = refl
      regroup false y z = refl

  pub no_head : words_fit bs && placed (words_of bs) ≡ false → read_sheet bs ≡ refused 40
  no_head p = by_tests p refl

  pub no_bodies : words_fit bs && placed (words_of bs) ≡ true → bodies_fit (sheet_of (words_of bs)) ≡ false → read_sheet bs ≡ refused 40
  no_bodies p q = by_tests p q

  pub over_limits : words_fit bs && placed (words_of bs) ≡ true → bodies_fit (sheet_of (words_of bs)) ≡ true
      → within_limits (sheet_of (words_of bs)) ≡ false → read_sheet bs ≡ refused 5
  over_limits p q l = by_tests p q ∙ ap (λ (w : Bool). unless w 5 (sheet_of (words_of bs))) l

  pub reads : words_fit bs && placed (words_of bs) ≡ true → bodies_fit (sheet_of (words_of bs)) ≡ true
      → within_limits (sheet_of (words_of bs)) ≡ true → read_sheet bs ≡ done (sheet_of (words_of bs))
  reads p q l = by_tests p q ∙ ap (λ (w : Bool). unless w 5 (sheet_of (words_of bs))) l

  -- what is read passes each test
  pub record Passes : Type 0 where
    pub head : words_fit bs && placed (words_of bs) ≡ true
    pub bodies : bodies_fit (sheet_of (words_of bs)) ≡ true
    pub limits : within_limits (sheet_of (words_of bs)) ≡ true

  pub read_passes : number (read_sheet bs) ≡ 0 → Passes
  read_passes e = on (words_fit bs && placed (words_of bs)) refl (bodies_fit (sheet_of (words_of bs))) refl (within_limits (sheet_of (words_of bs))) refl
    where
      not_zero : {A : Type 0} {c : ℕ} → read_sheet bs ≡ refused (suc c) → A
      not_zero q = absurd (no (sym (ap number q) ∙ e))
        where
          no : {c : ℕ} → suc c ≡ 0 → ⊥
          no q = omega arith

      on : (a : Bool) → words_fit bs && placed (words_of bs) ≡ a → (b : Bool) → bodies_fit (sheet_of (words_of bs)) ≡ b → (c : Bool)
          → within_limits (sheet_of (words_of bs)) ≡ c → Passes
      on true p true q true l = record { head = p; bodies = q; limits = l }
      on true p true q false l = not_zero (over_limits p q l)
      on true p false q c l = not_zero (no_bodies p q)
      on false p b q c l = not_zero (no_head p)

  pub read_limits : {s : Sheet} → read_sheet bs ≡ done s → within_limits s ≡ true
  read_limits {s} e = let p = read_passes (ap number e) in ap within_limits (same (sym e ∙ reads p.head p.bodies p.limits)) ∙ p.limits
    where
      same : {t : Sheet} → done s ≡ done t → s ≡ t
      same q = cc

  module _ (p : words_fit bs && placed (words_of bs) ≡ true) where
    head_parts : (11 ≤ length (words_of bs)) × (follow (words_of bs) 11 (0 ∷ 1 ∷ 2 ∷ 3 ∷ 4 ∷ []) ≡ true)
    unfolding placed
    head_parts = on (words_fit bs) (leb 11 (length (words_of bs))) refl (eqb (word (words_of bs) 0) 5) (follow (words_of bs) 11 (0 ∷ 1 ∷ 2 ∷ 3 ∷ 4 ∷ [])) p
      where
        on : (a b : Bool) → leb 11 (length (words_of bs)) ≡ b → (c d : Bool) → a && (b && (c && d)) ≡ true → (11 ≤ length (words_of bs)) × (d ≡ true)
        on true true e true d q = (leb-true 11 (length (words_of bs)) e, q)
        on true true e false d q = absurd (subst T (sym q) tt)
        on true false e c d q = absurd (subst T (sym q) tt)
        on false b e c d q = absurd (subst T (sym q) tt)

    pub head_bytes : 88 ≤ length bs
    head_bytes = omega (arith, head_parts.0, words-length bs)

    pub places-located : Located (words_of bs) (places_of (words_of bs))
    places-located = located (words_of bs) head_parts.1

    -- the limits, by places
    pub limits_at : (q : Places) → q ≡ places_of (words_of bs)
        → within_limits (sheet_of (words_of bs)) ≡ leb ((q.end - q.events) / event_size) most_cycle_events
        && leb (q.events - q.samples) most_samples
    limits_at q e =
        let l = places-located in
        let r = places_of (words_of bs) in
        ap₂ ◌&&◌ (ap (λ (n : ℕ). leb (n / event_size) most_cycle_events) (body-length (words_of bs) r.events r.end 4 l.events.0
        l.events.1 (omega (arith, l.whole))))
        (ap (λ (n : ℕ). leb n most_samples) (body-length (words_of bs) r.samples r.events 3 l.samples.0 l.samples.1
        (omega (arith, l.events.1, l.whole))))
        ∙ ap (λ (x : Places). leb ((x.end - x.events) / event_size) most_cycle_events && leb (x.events - x.samples) most_samples) (sym e)
