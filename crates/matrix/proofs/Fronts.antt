-- Sums and tests of the first m elements of a list, by index.
use mathlib.Core.Path.{◌≡◌, refl, sym, ap₂, ◌∙◌}
use mathlib.Core.Bool.{Bool, false, ◌&&◌}
use mathlib.Core.List.{List, [], ◌∷◌}
use Prim.Native.Nat.{ℕ, zero, suc, ◌+◌, ◌≤◌, ◌<◌}
use native.Mathlib.Nat.{eq-or-lt_of_le, add-zero, zero-add}
use native.Mathlib.Omega.{arith}
use mathlib.Core.Logic.{inl, inr}
use lib.ListN.{length, get_or, take}
use lib.Seq.{get_or-take}
use Rattle.std.proofs.Math.Bool.{and-false}
use Rattle.std.specs.List.{range_with_len}
use Rattle.std.proofs.Common.{length-take-le}
use Rattle.std.proofs.lemmas.List.{get_or_default}
use Rattle.binary64.specs.Lists.{all}
use Rattle.binary64.proofs.Folds.{and_regroup, and_whole}
use Rattle.matrix.specs.Matrix.{all_to}

-- the first test ahead of the others
all-first : (f : ℕ → Bool) (m : ℕ) → all_to f (suc m) ≡ f 0 && all_to (λ i. f (suc i)) m
unfolding all_to
all-first f zero = sym (and_whole (f 0))
all-first f (suc m) = rw (all-first f m) (and_regroup (f 0) (all_to (λ i. f (suc i)) m) (f (suc m)))

pub all_front : {A : Type 0} (p : A → Bool) (f : ℕ → Bool) (m : ℕ) (xs : List A) (d : A) → m ≤ length xs → ((i : ℕ) → i < m → p (get_or xs i d) ≡ f i) → all p (take m xs) ≡ all_to f m
unfolding all_to
all_front p f zero xs d h e = refl
all_front p f (suc m) [] d h e = absurd (omega arith)
all_front p f (suc m) (x ∷ xs) d h e =
    ap₂ ◌&&◌ (e 0 (omega arith)) (all_front p (λ i. f (suc i)) m xs d (omega arith) (λ i l. e (suc i) (omega arith))) ∙ rw (all-first f m)

-- the same of the numbers from a on
from_range : (p f : ℕ → Bool) (a m : ℕ) → ((i : ℕ) → i < m → p (a + i) ≡ f i) → all p (range_with_len a m) ≡ all_to f m
unfolding all_to
from_range p f a zero e = refl
from_range p f a (suc m) e =
    let next : (i : ℕ) → i < m → p (a + 1 + i) ≡ f (suc i) = λ i l. let q : a + 1 + i ≡ a + suc i = omega arith in rw q (e (suc i) (omega arith)) in
    ap₂ ◌&&◌ (rw add-zero at (e 0 (omega arith))) (from_range p (λ i. f (suc i)) (a + 1) m next) ∙ rw (all-first f m)

pub all_range : (f : ℕ → Bool) (m : ℕ) → all f (range_with_len 0 m) ≡ all_to f m
all_range f m = from_range f f 0 m (λ i l. rw zero-add)

-- one that fails
pub all_to-false : (f : ℕ → Bool) (m i : ℕ) → i < m → f i ≡ false → all_to f m ≡ false
unfolding all_to
all_to-false f zero i h e = absurd (omega arith)
all_to-false f (suc m) i h e = elim (eq-or-lt_of_le h) [
  | inl p ↦ let q : i ≡ m = omega arith in rw (← q, e) (and-false (all_to f i))
  | inr p ↦ rw (all_to-false f m i (omega arith) e)
]

-- the item at place i of the first m
pub front-item : {A : Type 0} (m : ℕ) (xs : List A) (i : ℕ) (d : A) {x : A} → m ≤ length xs → i < length (take m xs) → x ≡ get_or (take m xs) i x
    → (i < m) × (x ≡ get_or xs i d)
front-item m xs i d {x} h l e =
    let below : i < m = rw (length-take-le m xs h) at l in
    (below, e ∙ get_or-take m xs i x below ∙ get_or_default xs i x d (omega arith))
