-- The pivot of a column, in the words of the code.
use mathlib.Core.Path.{◌≡◌, refl, ◌∙◌}
use mathlib.Core.Bool.{Bool, true, false, cond}
use Prim.Native.Nat.{ℕ, zero, suc, ◌+◌, ◌-◌, ◌≤◌, ◌<◌}
use native.Mathlib.Omega.{arith}
use native.Mathlib.Nat.{add-zero, zero-add}
use Rattle.std.specs.List.{fold, range_with_len}
use Rattle.binary64.specs.Doubles.{magnitude, total_le}
use Rattle.matrix.specs.Matrix.{Matrix, at}
use Rattle.matrix.specs.Arrays.{lead}
use Rattle.cycle.specs.Elimination.{pivot_to, pivot_of}
use Rattle.matrix.proofs.Rows.{lead-at}

module _ (n : ℕ) (a : Matrix) (k : ℕ) where
  -- the row of the larger magnitude
  abbrev pub larger_row : ℕ → ℕ → ℕ
  larger_row p i = cond (total_le (magnitude (at a p k)) (magnitude (at a i k))) i p

  -- p is the pivot's row among the first e + 1
  abbrev Pivot : ℕ → ℕ → Type 0
  Pivot p e = (p ≡ pivot_to (lead n a) k e) × (p ≤ k + e)

  pivot-more : (p e : ℕ) → k + suc e < n → Pivot p e → Pivot (larger_row p (k + suc e)) (suc e)
  unfolding pivot_to
  pivot-more p e b (h, m) = (value, on (total_le (magnitude (at a p k)) (magnitude (at a (k + suc e) k))))
    where
      on : (b : Bool) → cond b (k + suc e) p ≤ k + suc e
      on true = omega arith
      on false = omega arith

      value : larger_row p (k + suc e) ≡ pivot_to (lead n a) k (suc e)
      value = rw (← lead-at n a p k (omega arith) (omega arith), ← lead-at n a (k + suc e) k (omega arith) (omega arith), h)

  pivot-rows : (d p e : ℕ) → k + (e + d) < n → Pivot p e → Pivot (fold larger_row p (range_with_len (k + suc e) d)) (e + d)
  pivot-rows zero p e b h = rw (add-zero e) h
  pivot-rows (suc d) p e b h =
      let next : k + suc e + 1 ≡ k + suc (suc e) = omega arith in
      let all : e + suc d ≡ suc e + d = omega arith in
      rw (next, all) (pivot-rows d (larger_row p (k + suc e)) (suc e) (omega arith) (pivot-more p e (omega arith) h))

  pub pivot_all : {q : ℕ} → k < n → q ≡ fold larger_row k (range_with_len (k + 1) (n - (k + 1))) → (q ≡ pivot_of n (lead n a) k) × (q < n)
  unfolding pivot_of pivot_to
  pivot_all {q} l e =
      let rows : Pivot (fold larger_row k (range_with_len (k + 1) (n - suc k))) (n - suc k) =
      rw zero-add at (pivot-rows (n - suc k) k 0 (omega arith) (refl, omega arith)) in
      let count : n - (k + 1) ≡ n - suc k = omega arith in
      let at_row : q ≡ fold larger_row k (range_with_len (k + 1) (n - suc k)) = rw count at e in
      let most : q ≤ k + (n - suc k) = rw at_row rows.1 in
      (at_row ∙ rows.0, omega arith)
