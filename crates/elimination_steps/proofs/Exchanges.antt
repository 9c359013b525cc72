-- The leading part after an exchange.
use mathlib.Core.Path.{◌≡◌, refl, sym, ◌∙◌}
use mathlib.Core.Bool.{Bool, true, false}
use mathlib.Core.List.{List, [], ◌∷◌}
use Prim.Native.Nat.{ℕ, ◌≤◌, ◌<◌}
use native.Mathlib.Omega.{arith}
use lib.Dec.{eqb}
use lib.ListN.{length, get_or, set, take, length-set}
use lib.Seq.{get_or-set_same, get_or-set_other, ext_get_or, take-set-lt, get_or-take}
use borrow.Author.Tests.{eqb-true, eqb-false}
use lib.Ieee.{Float, nan}
use Rattle.matrix.specs.Matrix.{Matrix, cell, tabulate, table}
use Rattle.matrix.specs.Arrays.{lead}
use Rattle.std.specs.Prelude.{swap}
use Rattle.std.proofs.lemmas.List.{get_or_default}
use Rattle.cycle.specs.Elimination.{swapped}
use Rattle.matrix.proofs.Filled.{tabulate-at, tabulate-length}

-- a list that has at each place below n what h makes of another's, and still after a store in both
module _ {A B : Type 0} (h : A → B) (y : A) (z : B) (n : ℕ) where
  set-follows :
      (xs : List A) (ys : List B) (k : ℕ) (v : A) {w : B} → k < length xs → k < length ys → w ≡ h v → ((i : ℕ) → i < n → get_or ys i z ≡ h (get_or xs i y))
      → (i : ℕ) → i < n → get_or (set ys k w) i z ≡ h (get_or (set xs k v) i y)
  set-follows xs ys k v {w} l m q f i b = go (eqb i k) (eqb-true i k) (eqb-false i k)
    where
      go : (t : Bool) → (t ≡ true → i ≡ k) → (t ≡ false → i ≡ k → ⊥) → get_or (set ys k w) i z ≡ h (get_or (set xs k v) i y)
      go true e _ = rw (e refl, get_or-set_same ys k w z m, get_or-set_same xs k v y l) q
      go false _ e = rw (get_or-set_other ys k i w z (e refl), get_or-set_other xs k i v y (e refl)) (f i b)

  follows_all : (xs : List A) (ys : List B) → length ys ≡ n → ((i : ℕ) → i < n → get_or ys i z ≡ h (get_or xs i y)) → tabulate n (λ i. h (get_or xs i y)) ≡ ys
  follows_all xs ys l f =
      let g : ℕ → B = λ i. h (get_or xs i y) in
      ext_get_or z (tabulate n g) ys (tabulate-length g n ∙ sym l) (λ i b. tabulate-at g z n i (rw (tabulate-length g n) at b)
      ∙ sym (f i (rw (tabulate-length g n) at b)))

module _ (n k p : ℕ) (k-below : k < n) (p-below : p < n) where
  pub swapped-lead : (a : Matrix) → n ≤ length a → lead n (swapped [] k p a) ≡ swapped [] k p (lead n a)
  unfolding swapped lead table
  swapped-lead a fit =
      let row_of : List Float → List Float = λ r. tabulate n (cell r) in
      let at-lead : (i : ℕ) → i < n → get_or (lead n a) i [] ≡ row_of (get_or a i []) = λ i b. tabulate-at (λ i. row_of (get_or a i [])) [] n i b in
      let long : length (lead n a) ≡ n = tabulate-length (λ i. row_of (get_or a i [])) n in
      let once : List (List Float) = set (lead n a) k (get_or (lead n a) p []) in
      let same : length once ≡ n = length-set (lead n a) k (get_or (lead n a) p []) ∙ long in
      follows_all row_of [] [] n (swapped [] k p a) (swapped [] k p (lead n a)) (length-set once p (get_or (lead n a) k []) ∙ same)
      (set-follows row_of [] [] n (set a k (get_or a p [])) once p (get_or a k []) (rw (length-set a k (get_or a p [])) (omega arith))
      (rw same p-below) (at-lead k k-below)
      (set-follows row_of [] [] n a (lead n a) k (get_or a p []) (omega arith) (rw long k-below) (at-lead p p-below) at-lead))

  pub swapped-part : (b : List Float) → take n (swapped nan k p b) ≡ swapped nan k p (take n b)
  unfolding swapped
  swapped-part b = rw (take-set-lt n (set b k (get_or b p nan)) p (get_or b k nan), take-set-lt n b k (get_or b p nan), get_or-take n b k nan, get_or-take n b p nan)

-- the library's exchange of two elements that are there
pub swapped-is : {A : Type 0} (z : A) (xs : List A) (i j : ℕ) → i < length xs → j < length xs → swap xs i j ≡ swapped z i j xs
unfolding swapped
swapped-is z [] i j p q = refl
swapped-is z (x ∷ xs) i j p q = rw (get_or_default (x ∷ xs) j x z q, get_or_default (x ∷ xs) i x z p)
