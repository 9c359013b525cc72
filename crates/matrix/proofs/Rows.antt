-- Laws of rows over the whole width, and of the leading part of an array whose rows are replaced.
use mathlib.Core.Path.{◌≡◌, refl, ap, ap₂, sym, ◌∙◌}
use mathlib.Core.List.{List, []}
use mathlib.Core.Bool.{Bool, ◌&&◌}
use Prim.Native.Nat.{ℕ, zero, suc, ◌+◌, ◌<◌, ◌≤◌}
use native.Mathlib.Numerals.{add-one}
use native.Mathlib.Omega.{arith}
use lib.ListN.{length, get_or}
use lib.Ieee.{Float, nan, binary64, add, mul, div}
use Rattle.limits.specs.Limits.{block}
use Rattle.binary64.specs.Doubles.{half}
use Rattle.matrix.specs.Matrix.{Matrix, cell, at, sum_to, all_to, tabulate, table, dot, product, quotient, plus, halved}
use Rattle.matrix.specs.Arrays.{lead, updated, scaled_sum, row_times, row_quotient, row_sum_of, row_half}
use Rattle.matrix.proofs.Filled.{tabulate_cong, tabulate-at}
use Rattle.matrix.proofs.Updated.{updated-at}

-- one row of b more
pub times_more : (r : List Float) (b : Matrix) (k : ℕ) {s t : List Float} → s ≡ row_times r b k → t ≡ scaled_sum s (cell r k) (get_or b k [])
    → t ≡ row_times r b (k + 1)
unfolding scaled_sum row_times sum_to
times_more r b k p q =
    q ∙ rw (p, add-one)
    (tabulate_cong block (λ (j : ℕ) (h : j < block). ap (λ (x : Float). add binary64 x (mul binary64 (cell r k) (at b k j)))
    (tabulate-at (λ j. sum_to (λ k. mul binary64 (cell r k) (at b k j)) k) nan block j h)))

-- equal summands, equal sums
pub sum_cong : {f g : ℕ → Float} (m : ℕ) → ((k : ℕ) → k < m → f k ≡ g k) → sum_to f m ≡ sum_to g m
unfolding sum_to
sum_cong zero h = refl
sum_cong (suc m) h = ap₂ (add binary64) (sum_cong m (λ k l. h k (omega arith))) (h m (omega arith))

pub all_cong : {f g : ℕ → Bool} (m : ℕ) → ((k : ℕ) → k < m → f k ≡ g k) → all_to f m ≡ all_to g m
unfolding all_to
all_cong zero h = refl
all_cong (suc m) h = ap₂ ◌&&◌ (all_cong m (λ k l. h k (omega arith))) (h m (omega arith))

pub table_at : (f : ℕ → ℕ → Float) (m i j : ℕ) → i < m → j < m → at (table m f) i j ≡ f i j
unfolding table
table_at f m i j p q = ap (λ (r : List Float). cell r j) (tabulate-at (λ i. tabulate m (f i)) [] m i p) ∙ tabulate-at (f i) nan m j q

pub table_cong : {f g : ℕ → ℕ → Float} (m : ℕ) → ((i j : ℕ) → i < m → j < m → f i j ≡ g i j) → table m f ≡ table m g
unfolding table
table_cong m h = tabulate_cong m (λ i p. tabulate_cong m (λ j q. h i j p q))

pub lead-at : (m : ℕ) (a : Matrix) (i j : ℕ) → i < m → j < m → at (lead m a) i j ≡ at a i j
unfolding lead
lead-at m a i j p q = table_at (at a) m i j p q

-- the leading part after its rows are replaced
module _ (m : ℕ) (fit : m ≤ block) (a : Matrix) (width : length a ≡ block) where
  pub replaced : (g : ℕ → List Float → List Float) {f : ℕ → ℕ → Float} → ((i j : ℕ) → i < m → j < m → cell (g i (get_or a i [])) j ≡ f i j)
      → lead m (updated m g a) ≡ table m f
  unfolding lead
  replaced g h = table_cong m (λ i j p q. ap (λ (r : List Float). cell r j) (updated-at g [] m i a p (omega arith)) ∙ h i j p q)

  pub lead-halved : lead m (updated m (λ i r. row_half r) a) ≡ halved m (lead m a)
  unfolding halved row_half
  lead-halved =
      replaced (λ i r. row_half r)
      (λ i j p q. tabulate-at (λ j. mul binary64 (cell (get_or a i []) j) half) nan block j (omega arith)
      ∙ ap (λ (x : Float). mul binary64 x half) (sym (lead-at m a i j p q)))

  pub lead-plus : (t : Matrix) → lead m (updated m (λ i r. row_sum_of r (get_or t i [])) a) ≡ plus m (lead m a) (lead m t)
  unfolding plus row_sum_of
  lead-plus t =
      replaced (λ i r. row_sum_of r (get_or t i []))
      (λ i j p q. tabulate-at (λ j. add binary64 (cell (get_or a i []) j) (at t i j)) nan block j (omega arith)
      ∙ ap₂ (add binary64) (sym (lead-at m a i j p q)) (sym (lead-at m t i j p q)))

  -- an entry of a row times b
  times-at : (r : List Float) (b c : Matrix) (i j : ℕ) → j < m → ((k : ℕ) → k < m → cell r k ≡ at c i k) → cell (row_times r b m) j ≡ dot c (lead m b) m i j
  unfolding row_times dot
  times-at r b c i j q h =
      tabulate-at (λ j. sum_to (λ k. mul binary64 (cell r k) (at b k j)) m) nan block j (omega arith)
      ∙ sum_cong m (λ k l. ap₂ (mul binary64) (h k l) (sym (lead-at m b k j l q)))

  pub lead-term : (b : Matrix) (x : Float) → lead m (updated m (λ i r. row_quotient (row_times r b m) x) a) ≡ quotient m (product m (lead m a) (lead m b)) x
  unfolding quotient product row_quotient
  lead-term b x =
      replaced (λ i r. row_quotient (row_times r b m) x)
      (λ i j p q. tabulate-at (λ j. div binary64 (cell (row_times (get_or a i []) b m) j) x) nan block j (omega arith)
      ∙ ap (λ (y : Float). div binary64 y x) (times-at (get_or a i []) b (lead m a) i j q (λ k l. sym (lead-at m a i k p l))
      ∙ sym (table_at (dot (lead m a) (lead m b) m) m i j p q)))

  pub lead_square : (p : Matrix) → lead m (updated m (λ i r. row_times (get_or p i []) p m) a) ≡ product m (lead m p) (lead m p)
  unfolding product
  lead_square c = replaced (λ i r. row_times (get_or c i []) c m) (λ i j p q. times-at (get_or c i []) c (lead m c) i j q (λ k l. sym (lead-at m c i k p l)))
