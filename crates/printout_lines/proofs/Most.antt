-- How long rows, and the digits of their number, are at most.
use mathlib.Core.Bool.{Bool, true, false, cond}
use mathlib.Core.List.{List}
use mathlib.Core.Path.{◌≡◌, refl}
use Prim.Native.Nat.{ℕ, zero, suc, ◌*◌, ◌/◌, ◌≤◌}
use native.Mathlib.Omega.{arith}
use borrow.Author.Tests.{ltb-true, ltb-false}
use lib.Dec.{eqb, ltb}
use lib.ListN.{get_or}
use Rattle.limits.specs.Limits.{states}
use Rattle.printout_numbers.specs.Digits.{places}
use Rattle.printout_numbers.proofs.Counts.{places-most}
use Rattle.printout_rows.specs.Row.{side_length, row_length}
use Rattle.printout_rows.specs.Rows.{rows_length}

pub side-most : (s : ℕ) → side_length s ≤ 4
side-most s = go (eqb s 1)
  where
    go : (t : Bool) → cond t 3 4 ≤ 4
    go true = omega arith
    go false = omega arith

-- the longer side is the one that is not 1
pub rows-most : (n : ℕ) (sides : List ℕ) (k : ℕ) → n ≤ states → rows_length n k sides ≤ k * row_length states 0
unfolding rows_length
rows-most n sides zero h = omega arith
rows-most n sides (suc k) h = omega (arith, rows-most n sides k h, side-most (get_or sides k 0))

-- a greater number has no fewer digits
pub places_mono : (m w v : ℕ) → w ≤ v → places m w ≤ places m v
unfolding places
places_mono zero w v h = omega arith
places_mono (suc m) w v h = on (places_mono m (w / 10) (v / 10) (omega arith)) (ltb w 10) refl (ltb v 10) refl
  where
    on : places m (w / 10) ≤ places m (v / 10) → (a : Bool) → ltb w 10 ≡ a → (b : Bool) → ltb v 10 ≡ b
        → cond a 1 (suc (places m (w / 10))) ≤ cond b 1 (suc (places m (v / 10)))
    on i true p true q = omega arith
    on i true p false q = omega arith
    on i false p true q = omega (arith, ltb-false w 10 p, ltb-true v 10 q)
    on i false p false q = omega arith

pub ruleset most = (places-most, rows-most, side-most)
