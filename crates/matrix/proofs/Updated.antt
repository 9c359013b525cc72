-- Laws of `updated`, a list whose first elements are replaced in place.
use mathlib.Core.Path.{◌≡◌, refl, ap}
use mathlib.Core.List.{List, [], ◌∷◌, ◌++◌}
use Prim.Native.Nat.{ℕ, zero, suc, ◌+◌, ◌<◌, ◌≤◌}
use native.Mathlib.Nat.{not-suc-le-zero, le_of_suc-le-suc, add-zero, zero-add, suc-add, add-suc, le_antisymm}
use native.Mathlib.Numerals.{add-one}
use lib.ListN.{length, get_or, set, take, drop}
use Rattle.matrix.specs.Arrays.{updated, updated_from}

module _ {A : Type 0} (g : ℕ → A → A) (d : A) where
  from_next : (i m : ℕ) (xs : List A) → get_or (updated_from i m g xs) m d ≡ get_or xs m d
  unfolding updated_from
  from_next i zero xs = refl
  from_next i (suc m) [] = refl
  from_next i (suc m) (x ∷ xs) = from_next (suc i) m xs

  from_more : (i m : ℕ) (xs : List A) → set (updated_from i m g xs) m (g (i + m) (get_or xs m d)) ≡ updated_from i (suc m) g xs
  unfolding updated_from
  from_more i zero [] = refl
  from_more i zero (x ∷ xs) = rw add-zero
  from_more i (suc m) [] = refl
  from_more i (suc m) (x ∷ xs) = ap {B = List A} (λ r. g i x ∷ r) (rw (add-suc, ← suc-add) (from_more (suc i) m xs))

  -- one more element is replaced
  pub updated_more : (m : ℕ) (xs : List A) {ys : List A} {v : A} → ys ≡ updated m g xs → v ≡ g m (get_or ys m d) → set ys m v ≡ updated (m + 1) g xs
  unfolding updated
  updated_more m xs p q = rw (q, p, add-one) (rw (from_next 0 m xs) (rw zero-add at (from_more 0 m xs)))

  from_at : (i m k : ℕ) (xs : List A) → k < m → k < length xs → get_or (updated_from i m g xs) k d ≡ g (i + k) (get_or xs k d)
  unfolding updated_from
  from_at i zero k xs h l = absurd (not-suc-le-zero h)
  from_at i (suc m) k [] h l = absurd (not-suc-le-zero l)
  from_at i (suc m) zero (x ∷ xs) h l = rw add-zero
  from_at i (suc m) (suc k) (x ∷ xs) h l = rw (add-suc, ← suc-add) (from_at (suc i) m k xs (le_of_suc-le-suc h) (le_of_suc-le-suc l))

  pub updated-at : (m k : ℕ) (xs : List A) → k < m → k < length xs → get_or (updated m g xs) k d ≡ g k (get_or xs k d)
  unfolding updated
  updated-at m k xs h l = rw zero-add at (from_at 0 m k xs h l)

module _ {A : Type 0} (g : ℕ → A → A) where
  from_length : (i m : ℕ) (xs : List A) → length (updated_from i m g xs) ≡ length xs
  unfolding updated_from
  from_length i zero xs = refl
  from_length i (suc m) [] = refl
  from_length i (suc m) (x ∷ xs) = ap suc (from_length (suc i) m xs)

  pub updated-length : (m : ℕ) (xs : List A) → length (updated m g xs) ≡ length xs
  unfolding updated
  updated-length m xs = from_length 0 m xs

  -- all are
  pub updated-all : (k m : ℕ) (xs : List A) {ys : List A} → k ≤ m → m ≤ k → ys ≡ updated k g xs → ys ≡ updated m g xs
  updated-all k m xs p q r = rw (le_antisymm p q) at r

  from_front : (i m k : ℕ) (xs : List A) → length (take m xs) ≤ k → updated_from i k g (take m xs) ++ drop m xs ≡ updated_from i m g xs
  unfolding updated_from
  from_front i zero zero xs h = refl
  from_front i zero (suc k) xs h = refl
  from_front i (suc m) zero [] h = refl
  from_front i (suc m) (suc k) [] h = refl
  from_front i (suc m) zero (x ∷ xs) h = absurd (not-suc-le-zero h)
  from_front i (suc m) (suc k) (x ∷ xs) h = ap {B = List A} (λ r. g i x ∷ r) (from_front (suc i) m k xs (le_of_suc-le-suc h))

  -- all of the first m are, ahead of the others
  pub updated-front : (k m : ℕ) (xs : List A) {ys : List A} → length (take m xs) ≤ k → ys ≡ updated k g (take m xs) → ys ++ drop m xs ≡ updated m g xs
  unfolding updated
  updated-front k m xs h e = rw e (from_front 0 m k xs h)
