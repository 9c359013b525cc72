-- A table's cells are read of the leading part alone.
use mathlib.Core.Path.{◌≡◌, refl, sym, ap, ap₂, ◌∙◌}
use mathlib.Core.Bool.{Bool, true, false, cond, ◌&&◌}
use mathlib.Core.List.{List, []}
use Prim.Native.Nat.{ℕ, ◌≤◌, ◌<◌}
use native.Mathlib.Omega.{arith}
use lib.Dec.{T, ltb, ltb→lt}
use lib.ListN.{take}
use lib.Seq.{get_or-take}
use lib.Ieee.{Float, nan, binary64, sub, mul, div}
use Rattle.limits.specs.Limits.{states}
use Rattle.matrix.specs.Matrix.{Matrix, cell, at, table, tabulate}
use Rattle.matrix.specs.Arrays.{lead}
use Rattle.cycle.specs.Elimination.{system_cell, factor, reduced_cell, reduced_right}
use Rattle.elimination_system.specs.Systems.{held}
use Rattle.matrix.proofs.Filled.{tabulate-at}
use Rattle.matrix.proofs.Rows.{table_cong, lead-at}

module _ (n : ℕ) (a : Matrix) where
  factor-lead : (k i : ℕ) → k < n → i < n → factor (lead n a) k i ≡ factor a k i
  unfolding factor
  factor-lead k i p q = ap₂ (div binary64) (lead-at n a i k q p) (lead-at n a k k p p)

  pub system-lead : (i j : ℕ) → i < n → j < n → system_cell (lead n a) i j ≡ system_cell a i j
  unfolding system_cell
  system-lead i j p q = rw (lead-at n a j i q p)

  pub reduced-lead : (k i j : ℕ) → i < n → j < n → reduced_cell (lead n a) k i j ≡ reduced_cell a k i j
  unfolding reduced_cell
  reduced-lead k i j p q = rw (lead-at n a i j p q) (on (ltb k i) (ltb k j) (λ t. omega (arith, ltb→lt k i t)))
    where
      on : (b c : Bool) → (T b → k < n)
          → cond (b && c) (sub binary64 (at a i j) (mul binary64 (factor (lead n a) k i) (at (lead n a) k j))) (at a i j)
          ≡ cond (b && c) (sub binary64 (at a i j) (mul binary64 (factor a k i) (at a k j))) (at a i j)
      on true true f = rw (factor-lead k i (f tt) p, lead-at n a k j (f tt) q)
      on true false f = refl
      on false c f = refl

  pub right-lead : (b : List Float) (k i : ℕ) → i < n → reduced_right (held n a b) k i ≡ reduced_right (record { matrix = a; right = b }) k i
  unfolding reduced_right
  right-lead b k i p = rw (get_or-take n b i nan p) (on (ltb k i) (λ t. omega (arith, ltb→lt k i t)))
    where
      on : (t : Bool) → (T t → k < n)
          → cond t (sub binary64 (cell b i) (mul binary64 (factor (lead n a) k i) (cell (take n b) k))) (cell b i)
          ≡ cond t (sub binary64 (cell b i) (mul binary64 (factor a k i) (cell b k))) (cell b i)
      on true f = rw (factor-lead k i (f tt) p, get_or-take n b k nan (f tt))
      on false f = refl

-- the leading part of a table of cells
pub table-made : (n : ℕ) (f g : ℕ → ℕ → Float) {r : Matrix} → n ≤ states → r ≡ tabulate states (λ i. tabulate states (f i))
    → ((i j : ℕ) → i < n → j < n → g i j ≡ f i j) → lead n r ≡ table n g
unfolding lead
table-made n f g fit e h =
    table_cong n (λ i j p q. rw e
    (ap (λ (r : List Float). cell r j) (tabulate-at (λ i. tabulate states (f i)) [] 4 i (omega arith))
    ∙ tabulate-at (f i) nan 4 j (omega arith) ∙ sym (h i j p q)))
