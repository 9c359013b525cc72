-- One amount more of back substitution.
use mathlib.Core.Path.{◌≡◌, ap₂, ◌∙◌}
use mathlib.Core.List.{List}
use Prim.Native.Nat.{ℕ, suc, ◌+◌, ◌-◌, ◌<◌, ◌≤◌}
use native.Mathlib.Omega.{arith}
use native.Mathlib.Numerals.{add-one}
use lib.ListN.{length, set, take, drop}
use lib.Seq.{take-set-lt, get_or-take}
use Rattle.std.proofs.Common.{length-take-le}
use Rattle.std.proofs.lemmas.List.{get_or-drop, length-drop}
use lib.Ieee.{Float, nan, binary64, add, sub, mul, div}
use Rattle.matrix.specs.Matrix.{Matrix, cell, at, sum_to}
use Rattle.matrix.specs.Arrays.{lead}
use Rattle.cycle.specs.Elimination.{solved_sum, solve_to}
use Rattle.elimination_system.specs.Systems.{held}
use Rattle.matrix.proofs.Rows.{sum_cong, lead-at}

-- element j of the part from place i + 1 to place n
pub part-at : (n i j : ℕ) (r : List Float) → j < n - (i + 1) → cell (take (n - (i + 1)) (drop (i + 1) r)) j ≡ cell r (suc i + j)
part-at n i j r l = get_or-take (n - (i + 1)) (drop (i + 1) r) j nan l ∙ get_or-drop (i + 1) r j nan ∙ rw (add-one i)

pub part-length : (n i : ℕ) (r : List Float) → n ≤ length r → length (take (n - (i + 1)) (drop (i + 1) r)) ≡ n - (i + 1)
part-length n i r l =
    let h : length (drop (i + 1) r) ≡ length r - (i + 1) = length-drop (i + 1) r in
    length-take-le (n - (i + 1)) (drop (i + 1) r) (omega arith)

pub sum_more :
    (a : Matrix) (x : List Float) (i j : ℕ) {s t u : Float} → s ≡ solved_sum a x i j → t ≡ at a i (suc i + j) → u ≡ cell x (suc i + j)
    → add binary64 s (mul binary64 t u) ≡ solved_sum a x i (j + 1)
unfolding solved_sum sum_to
sum_more a x i j p q r = rw (p, q, r, add-one j)

module _ (n : ℕ) (a : Matrix) (b x : List Float) (d : ℕ) (below : d < n) where
  sum-lead : solved_sum (lead n a) (take n x) (n - suc d) d ≡ solved_sum a x (n - suc d) d
  unfolding solved_sum
  sum-lead =
      sum_cong d (λ j l. ap₂ (mul binary64) (lead-at n a (n - suc d) (suc (n - suc d) + j) (omega arith) (omega arith))
      (get_or-take n x (suc (n - suc d) + j) nan (omega arith)))

  from_end :
      {s t : Float} → take n x ≡ solve_to n (held n a b) d → s ≡ solved_sum a x (n - suc d) d → t ≡ at a (n - suc d) (n - suc d)
      → take n (set x (n - suc d) (div binary64 (sub binary64 (cell b (n - suc d)) s) t)) ≡ solve_to n (held n a b) (suc d)
  unfolding solve_to
  from_end p q r =
      rw (q, r, ← p) (take-set-lt n x (n - suc d) (div binary64 (sub binary64 (cell b (n - suc d)) (solved_sum a x (n - suc d) d))
      (at a (n - suc d) (n - suc d))) (omega arith)
      ∙ rw (sum-lead, get_or-take n b (n - suc d) nan (omega arith), lead-at n a (n - suc d) (n - suc d) (omega arith) (omega arith)))

-- the amount of row i - 1
pub solved-more :
    (n : ℕ) (a : Matrix) (b x : List Float) (i : ℕ) {s t : Float} → 0 < i → i ≤ n → take n x ≡ solve_to n (held n a b) (n - i)
    → s ≡ solved_sum a x (i - 1) (n - (i - 1 + 1)) → t ≡ at a (i - 1) (i - 1)
    → take n (set x (i - 1) (div binary64 (sub binary64 (cell b (i - 1)) s) t)) ≡ solve_to n (held n a b) (n - (i - 1))
solved-more n a b x i h l p q r =
    let place : n - suc (n - i) ≡ i - 1 = omega arith in
    let behind : n - (i - 1 + 1) ≡ n - i = omega arith in
    let more : n - (i - 1) ≡ suc (n - i) = omega arith in
    rw (more, ← place) (from_end n a b x (n - i) (omega arith) p (rw (behind, ← place) at q) (rw (← place) at r))
