-- What the three lent slices hold once rows are written from a place on: a time and a side a row, and n amounts from place row × n. Definitions only.
use Rattle.std.specs.Prelude.{ℕ, zero, suc, ◌*◌, ◌≤◌, List, [], ◌∷◌, length, Float}
use Rattle.protocol.specs.Execute.{Row}
use Rattle.protocol.specs.Entry.{side_code}

-- rs over the cells from place k on; what has no room is cut off
abbrev pub put : {A : Type 0} → ℕ → List A → List A → List A
put zero [] xs = xs
put zero (r ∷ rs) [] = []
put zero (r ∷ rs) (x ∷ xs) = r ∷ put zero rs xs
put (suc k) rs [] = []
put (suc k) rs (x ∷ xs) = x ∷ put k rs xs

pub record Cells : Type 0 where
  pub times : List Float
  pub sides : List ℕ
  pub values : List Float

abbrev pub cells : List Float → List ℕ → List Float → Cells
cells ts ss vs = record { times = ts; sides = ss; values = vs }

-- row k of n amounts
abbrev pub with_row_at : ℕ → ℕ → Row → Cells → Cells
with_row_at n k r c = record {
  times = put k (r.time ∷ []) c.times;
  sides = put k (side_code r.side ∷ []) c.sides;
  values = put (k * n) r.amounts c.values;
}

-- the rows from row k on
abbrev pub written : ℕ → ℕ → List Row → Cells → Cells
written n k [] c = c
written n k (r ∷ rs) c = written n (suc k) rs (with_row_at n k r c)

-- room for so many rows of n amounts
pub record RoomForRows (n rows : ℕ) (c : Cells) : Type 0 where
  pub times : rows ≤ length c.times
  pub sides : rows ≤ length c.sides
  pub values : rows * n ≤ length c.values
