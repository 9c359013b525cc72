-- Laws of `tabulate`: equal entries, its length, an entry, its front.
use mathlib.Core.Path.{◌≡◌, refl, ap, ◌∙◌}
use mathlib.Core.List.{List, [], ◌∷◌}
use Prim.Native.Nat.{ℕ, zero, suc, ◌+◌, ◌<◌, ◌≤◌}
use native.Mathlib.Nat.{not-suc-le-zero, le_of_suc-le-suc, add-zero, zero-add, suc-add, add-suc, zero-lt-suc}
use native.Mathlib.Omega.{arith}
use lib.ListN.{length, get_or, take, replicate}
use Rattle.matrix.specs.Matrix.{tabulate, tabulate_from}

module _ {A : Type 0} where
  from_cong : (f g : ℕ → A) (i m : ℕ) → ((k : ℕ) → k < m → f (i + k) ≡ g (i + k)) → tabulate_from i m f ≡ tabulate_from i m g
  unfolding tabulate_from
  from_cong f g i zero h = refl
  from_cong f g i (suc m) h =
      let e : f i ≡ g i = rw add-zero at (h 0 (zero-lt-suc m)) in
      let r : tabulate_from (suc i) m f ≡ tabulate_from (suc i) m g = from_cong f g (suc i) m
      (λ (k : ℕ) (l : k < m). rw (add-suc, ← suc-add) at (h (suc k) (omega arith))) in
      rw (e, r)

  -- equal entries, equal lists
  pub tabulate_cong : {f g : ℕ → A} (m : ℕ) → ((k : ℕ) → k < m → f k ≡ g k) → tabulate m f ≡ tabulate m g
  unfolding tabulate
  tabulate_cong {f} {g} m h = from_cong f g 0 m (λ (k : ℕ) (l : k < m). rw zero-add (h k l))

  from_length : (f : ℕ → A) (i m : ℕ) → length (tabulate_from i m f) ≡ m
  unfolding tabulate_from
  from_length f i zero = refl
  from_length f i (suc m) = ap suc (from_length f (suc i) m)

  pub tabulate-length : (f : ℕ → A) (m : ℕ) → length (tabulate m f) ≡ m
  unfolding tabulate
  tabulate-length f m = from_length f 0 m

  from_at : (f : ℕ → A) (d : A) (i m k : ℕ) → k < m → get_or (tabulate_from i m f) k d ≡ f (i + k)
  unfolding tabulate_from
  from_at f d i zero k h = absurd (not-suc-le-zero h)
  from_at f d i (suc m) zero h = rw add-zero
  from_at f d i (suc m) (suc k) h = rw (add-suc, ← suc-add) (from_at f d (suc i) m k (le_of_suc-le-suc h))

  pub tabulate-at : (f : ℕ → A) (d : A) (m k : ℕ) → k < m → get_or (tabulate m f) k d ≡ f k
  unfolding tabulate
  tabulate-at f d m k h = rw zero-add at (from_at f d 0 m k h)

  -- the first of equal cells
  pub take-replicate : (n w : ℕ) (z : A) → n ≤ w → take n (replicate w z) ≡ replicate n z
  take-replicate zero w z h = refl
  take-replicate (suc n) zero z h = absurd (not-suc-le-zero h)
  take-replicate (suc n) (suc w) z h = ap {B = List A} (λ r. z ∷ r) (take-replicate n w z (le_of_suc-le-suc h))

  from_take : (f : ℕ → A) (i w m : ℕ) → m ≤ w → take m (tabulate_from i w f) ≡ tabulate_from i m f
  unfolding tabulate_from
  from_take f i w zero h = refl
  from_take f i zero (suc m) h = absurd (not-suc-le-zero h)
  from_take f i (suc w) (suc m) h = ap {B = List A} (λ r. f i ∷ r) (from_take f (suc i) w m (le_of_suc-le-suc h))

  -- the first of them, where the entries are others' there
  pub tabulate-front : (f g : ℕ → A) (w m : ℕ) {xs : List A} → m ≤ w → xs ≡ tabulate w f → ((k : ℕ) → k < m → f k ≡ g k) → take m xs ≡ tabulate m g
  unfolding tabulate
  tabulate-front f g w m h e same = rw e (from_take f 0 w m h ∙ tabulate_cong m same)
