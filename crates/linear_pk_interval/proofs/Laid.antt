-- A list that is laid over the front of another, cell by cell.
use mathlib.Core.Path.{◌≡◌, refl, ◌∙◌}
use mathlib.Core.List.{List, ◌++◌}
use Prim.Native.Nat.{ℕ, suc, ◌+◌, ◌<◌, ◌≤◌}
use native.Mathlib.Nat.{zero-add, le_antisymm}
use native.Mathlib.Numerals.{add-one}
use native.Mathlib.Omega.{arith}
use lib.ListN.{length, get_or, set, take, drop, length-set}
use lib.Seq.{paste-suc, take-length}

-- i cells of xs are laid over old
pub record Laying {A : Type 0} (xs old : List A) (out : List A) (i : ℕ) : Type 0 where
  pub below : i ≤ length xs
  pub same : length out ≡ length old
  pub laid : out ≡ take i xs ++ drop i old

module _ {A : Type 0} (xs old : List A) where
  pub laying_start : Laying xs old old 0
  laying_start = record { below = omega arith; same = refl; laid = refl }

  pub laying_more : (z : A) {out : List A} (i : ℕ) → length xs ≤ length old → Laying xs old out i → i < length xs
      → Laying xs old (set out i (get_or xs i z)) (i + 1)
  laying_more z {out} i room h l = record {
    below = omega arith;
    same = length-set out i (get_or xs i z) ∙ h.same;
    laid = rw (h.laid, add-one) (rw (zero-add i, zero-add (suc i)) at (paste-suc old 0 xs i z (omega arith) l));
  }

  pub laying_done : {out : List A} (i : ℕ) → length xs ≤ i → Laying xs old out i → out ≡ xs ++ drop (length xs) old
  laying_done i p h = h.laid ∙ rw (le_antisymm h.below p, take-length)
