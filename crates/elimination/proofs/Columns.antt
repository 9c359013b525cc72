-- One column of elimination, in the words of the code.
use mathlib.Core.Path.{◌≡◌, ◌∙◌}
use mathlib.Core.Bool.{Bool, true, false, not}
use mathlib.Core.List.{List, []}
use Prim.Native.Nat.{ℕ, zero, suc, ◌+◌, ◌-◌, ◌≤◌, ◌<◌}
use native.Mathlib.Omega.{arith}
use native.Mathlib.Nat.{zero-add, suc-add, le_antisymm}
use native.Mathlib.Numerals.{add-one}
use borrow.Author.Tests.{not-true, not-false}
use lib.ListN.{length, take}
use lib.Ieee.{Float, nan}
use Rattle.limits.specs.Limits.{states}
use Rattle.matrix.specs.Matrix.{Matrix, at, table, tabulate}
use Rattle.matrix.specs.Arrays.{lead}
use Rattle.refusal.specs.Result.{refused, done, unless}
use Rattle.cycle.specs.Elimination.{System, least_pivot, pivot_of, pivot_passes, swapped, exchanged, reduced_cell, reduced_right, reduced}
use Rattle.cycle.specs.Elimination.{eliminate_column, eliminate_to, solve_to, solve}
use Rattle.elimination_system.specs.Systems.{held}
use Rattle.matrix.proofs.Rows.{lead-at}
use Rattle.elimination_steps.proofs.Exchanges.{swapped-lead, swapped-part}

module _ (n : ℕ) (least : Float) (s : System) where
  stays_refused : (k d : ℕ) {c : ℕ} → eliminate_to n least s k ≡ refused c → eliminate_to n least s (d + k) ≡ refused c
  unfolding eliminate_to
  stays_refused k zero e = rw (zero-add k) e
  stays_refused k (suc d) e = rw (suc-add, stays_refused k d e)

  module _ (k p : ℕ) (a : Matrix) (b : List Float) (below : k < n) (done-to : eliminate_to n least s k ≡ done (held n a b))
      (pivot : (p ≡ pivot_of n (lead n a) k) × (p < n)) where
    column : {x : Float} {t : Bool} → x ≡ at a p k → t ≡ pivot_passes least x
        → eliminate_to n least s (suc k) ≡ unless t 33 (reduced n k (exchanged k p (held n a b)))
    unfolding eliminate_to eliminate_column
    column e f = rw (done-to, ← pivot.0, lead-at n a p k pivot.1 below, ← e, ← f)

    pub column_refused : {x : Float} {t : Bool} → x ≡ at a p k → t ≡ pivot_passes least x → not t ≡ true → eliminate_to n least s n ≡ refused 33
    column_refused {t = t} e f g =
        let q : (n - suc k) + suc k ≡ n = omega arith in
        rw q at (stays_refused (suc k) (n - suc k) {c = 33} (column e f ∙ rw (not-true t g)))

    pub column-more :
        (h : Matrix) (g : List Float) {x : Float} {t : Bool} {u : Matrix} {v : List Float} → n ≤ states → x ≡ at a p k → t ≡ pivot_passes least x → not t ≡ false
        → (u ≡ swapped [] k p a) × (length a ≡ states) → v ≡ swapped nan k p b
        → take n g ≡ tabulate n (reduced_right (held n u v) k) → lead n h ≡ table n (reduced_cell (lead n u) k)
        → eliminate_to n least s (k + 1) ≡ done (held n h g)
    unfolding reduced exchanged
    column-more h g {t = t} {u} {v} fit e f o (y, w) z r l =
        let m : lead n u ≡ swapped [] k p (lead n a) = rw y (swapped-lead n k p below pivot.1 a (omega arith)) in
        let q : take n v ≡ swapped nan k p (take n b) = rw z (swapped-part n k p below pivot.1 b) in
        rw (add-one) (column e f ∙ rw (not-false t o, l, r, m, q))

  module _ (e : least ≡ least_pivot n s.matrix) where
    pub solve-refused : {c : ℕ} → eliminate_to n least s n ≡ refused c → solve n s ≡ refused c
    unfolding solve
    solve-refused h = rw (← e, h)

    pub solve-done : {k : ℕ} {t : System} → k ≤ n → n ≤ k → eliminate_to n least s k ≡ done t → solve n s ≡ done (solve_to n t n)
    unfolding solve
    solve-done p q h = rw (← e, rw (le_antisymm p q) at h)
