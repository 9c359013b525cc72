-- A loop that folds a test over a list, from the front: what is left to test gives the whole answer.
use mathlib.Core.Path.{◌≡◌, refl, sym, ◌∙◌}
use mathlib.Core.Bool.{Bool, true, false, ◌&&◌}
use mathlib.Core.List.{List, [], ◌∷◌}
use Prim.Native.Nat.{ℕ, zero, suc, ◌+◌, ◌<◌, ◌≤◌}
use native.Mathlib.Numerals.{add-one}
use native.Mathlib.Omega.{arith}
use lib.ListN.{length, get_or, drop}
use lib.Seq.{drop-cons}
use Rattle.binary64.specs.Lists.{all}

pub and_regroup : (a b c : Bool) → (a && b) && c ≡ a && (b && c)
and_regroup true b c = refl
and_regroup false b c = refl

pub and_whole : (a : Bool) → a && true ≡ a
and_whole true = refl
and_whole false = refl

drop_all : {A : Type 0} (xs : List A) (i : ℕ) → length xs ≤ i → drop i xs ≡ []
drop_all [] zero h = refl
drop_all [] (suc i) h = refl
drop_all (x ∷ xs) zero h = absurd (no h)
  where
    no : suc (length xs) ≤ 0 → ⊥
    no h = omega arith
drop_all (x ∷ xs) (suc i) h = drop_all xs i (omega arith)

module _ {A : Type 0} (p : A → Bool) (xs : List A) {r : Bool} where
  pub all_more : (d : A) (i : ℕ) (ok : Bool) {v : Bool} → i < length xs → v ≡ p (get_or xs i d) → ok && all p (drop i xs) ≡ r
      → (ok && v) && all p (drop (i + 1) xs) ≡ r
  all_more d i ok h e f = and_regroup ok _ _ ∙ rw (e, add-one) (rw (drop-cons xs i d h) at f)

  pub all_done : (i : ℕ) (ok : Bool) → length xs ≤ i → ok && all p (drop i xs) ≡ r → ok ≡ r
  all_done i ok h f = sym (and_whole ok) ∙ rw (drop_all xs i h) at f
