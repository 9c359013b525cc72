-- How long the rows are.
use mathlib.Core.Path.{◌≡◌, refl, ap, ap₂, ◌∙◌}
use mathlib.Core.Logic.{⊎_elim}
use mathlib.Core.List.{List}
use Prim.Native.Nat.{ℕ, zero, suc, ◌+◌, ◌-◌, ◌*◌, ◌≤◌, ◌<◌}
use native.Mathlib.Nat.{suc-mul, le_of_suc-le-suc, eq-or-lt_of_le}
use native.Mathlib.Omega.{arith}
use lib.ListN.{length, get_or, take, drop, length-append, length-drop}
use lib.Seq.{length-take-le}
use lib.Ieee.{Float, nan}
use Rattle.printout_rows.specs.Row.{row_length}
use Rattle.printout_rows.proofs.RowLengths.{row_length_lem}
use Rattle.printout_rows.specs.Rows.{row_at, row_lines, rows_length}

module _ (n : ℕ) (times : List Float) (sides : List ℕ) (values : List Float) where
  pub rows-length : (k : ℕ) → k * n ≤ length values → length (row_lines n k times sides values) ≡ rows_length n k sides
  unfolding row_lines rows_length
  rows-length zero h = refl
  rows-length (suc k) h =
      let e : suc k * n ≡ k * n + n = suc-mul k n in
      let room : n ≤ length (drop (k * n) values) = omega (arith, length-drop (k * n) values) in
      length-append (row_lines n k times sides values) (row_at n k times sides values)
      ∙ ap₂ ◌+◌ (rows-length k (omega arith))
      (row_length_lem (get_or times k nan) (get_or sides k 0) (take n (drop (k * n) values))
      ∙ ap (λ (j : ℕ). row_length j (get_or sides k 0)) (length-take-le n (drop (k * n) values) room))

  -- room for all is room for one more
  pub rows-below : (k rows : ℕ) → k < rows → length (row_lines n k times sides values) + length (row_at n k times sides values) ≤ length
      (row_lines n rows times sides values)
  unfolding row_lines
  rows-below k zero h = absurd (omega arith)
  rows-below k (suc rows) h =
      let e = length-append (row_lines n rows times sides values) (row_at n rows times sides values) in
      ⊎_elim (λ p. rw p (omega arith)) (λ l. omega (arith, rows-below k rows l)) (eq-or-lt_of_le (le_of_suc-le-suc h))

pub part-size : (a n : ℕ) → a + n - a ≡ n
part-size a n = omega arith
