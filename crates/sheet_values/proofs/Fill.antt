-- A slice that is filled from the front.
use mathlib.Core.Path.{◌≡◌, refl, ap}
use mathlib.Core.List.{List, [], ◌∷◌}
use Prim.Native.Nat.{ℕ, suc}
use lib.ListN.{length}
use Rattle.matrix.specs.Matrix.{tabulate, tabulate_from}
use Rattle.matrix.specs.Arrays.{updated, updated_from}

module _ {A : Type 0} (f : ℕ → A) where
  from_whole : (i : ℕ) (xs : List A) → updated_from i (length xs) (λ k x. f k) xs ≡ tabulate_from i (length xs) f
  unfolding updated_from tabulate_from
  from_whole i [] = refl
  from_whole i (x ∷ xs) = ap {B = List A} (λ r. f i ∷ r) (from_whole (suc i) xs)

  pub whole : (xs : List A) → updated (length xs) (λ k x. f k) xs ≡ tabulate (length xs) f
  unfolding updated tabulate
  whole xs = from_whole 0 xs
