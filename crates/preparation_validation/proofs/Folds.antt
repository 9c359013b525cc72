-- Events tested place by place: what is left to test gives the whole answer. A test of the events ahead, which stand turned round.
use mathlib.Core.Path.{◌≡◌, refl, ap, sym, ◌∙◌}
use mathlib.Core.Bool.{Bool, true, false, ◌&&◌, ◌||◌}
use mathlib.Core.List.{List, [], ◌∷◌, reverse, reverse_aux}
use Prim.Native.Nat.{ℕ, zero, suc, ◌+◌, ◌<◌, ◌≤◌}
use native.Mathlib.Numerals.{add-one}
use native.Mathlib.Omega.{arith}
use lib.ListN.{length, get_or, take, drop}
use lib.Seq.{drop-cons, take-suc}
use Rattle.std.proofs.Common.{drop_of_length-le}
use Rattle.std.proofs.lemmas.List.{reverse-append}
use Rattle.std.specs.List.{range_with_len}
use Rattle.binary64.specs.Lists.{any, all}
use Rattle.protocol.specs.Prepare.{event_passes, events_pass}
use Rattle.protocol.specs.declared.Event.{Event}
use Rattle.protocol.specs.declared.Window.{Window}

module _ {A : Type 0} (p : A → Bool) where
  or_turned : (a b c : Bool) → (a || b) || c ≡ b || (a || c)
  or_turned true true c = refl
  or_turned true false c = refl
  or_turned false true c = refl
  or_turned false false c = refl

  any_onto : (xs ys : List A) → any p xs || any p ys ≡ any p (reverse_aux xs ys)
  any_onto [] ys = refl
  any_onto (x ∷ xs) ys = or_turned (p x) (any p xs) (any p ys) ∙ any_onto xs (x ∷ ys)

  or_whole : (a : Bool) → a || false ≡ a
  or_whole true = refl
  or_whole false = refl

  pub any_turned : (xs : List A) → any p xs ≡ any p (reverse xs)
  any_turned xs = sym (or_whole (any p xs)) ∙ any_onto xs []

module _ (n : ℕ) (w : Window) (es : List Event) where
  -- the events from place i on, with those ahead of them
  abbrev pub pass_from : ℕ → Bool
  pass_from i = events_pass n w (reverse (take i es)) (drop i es)

  module _ (d : Event) (i : ℕ) (h : i < length es) where
    one_turned : reverse (take (suc i) es) ≡ get_or es i d ∷ reverse (take i es)
    one_turned = rw (take-suc es i d h) (reverse-append (take i es) (get_or es i d ∷ []))

    one_more : pass_from i ≡ event_passes n w (reverse (take i es)) (get_or es i d) && pass_from (suc i)
    one_more = rw (drop-cons es i d h, one_turned)

  events-done : (i : ℕ) → length es ≤ i → pass_from i ≡ true
  events-done i h = rw (drop_of_length-le es h)

  -- the tests of k places from i on are those that are left
  pub passes_over : (d : Event) (k i : ℕ) → i + k ≡ length es
      → all (λ (j : ℕ). event_passes n w (reverse (take j es)) (get_or es j d)) (range_with_len i k) ≡ pass_from i
  passes_over d zero i h = sym (events-done i (omega arith))
  passes_over d (suc k) i h =
      ap (λ (b : Bool). event_passes n w (reverse (take i es)) (get_or es i d) && b) (passes_over d k (i + 1) (omega arith) ∙ ap pass_from (add-one i))
      ∙ sym (one_more d i (omega arith))
