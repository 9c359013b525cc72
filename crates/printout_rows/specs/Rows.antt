-- The rows of a run's printout: 01, "The sheet and its printout". A text is the list of its bytes. Definitions only.
use Rattle.std.specs.Prelude.{ℕ, zero, suc, ◌+◌, ◌*◌, ◌≤◌, List, [], ◌++◌, take, drop, length, get_or, Float}
use Rattle.std.specs.Float.{nan}
use Rattle.printout_rows.specs.Row.{row_line, row_length}

-- row k of n amounts, out of the three lists
abbrev pub row_at : ℕ → ℕ → List Float → List ℕ → List Float → List ℕ
row_at n k times sides values = row_line (get_or times k nan) (get_or sides k 0) (take n (drop (k * n) values))

-- so many rows of n amounts stand in front of the three lists
pub record HasRows (n rows : ℕ) (times : List Float) (sides : List ℕ) (values : List Float) : Type 0 where
  pub enough_times : rows ≤ length times
  pub enough_sides : rows ≤ length sides
  pub enough_values : rows * n ≤ length values

-- the first rows
unfoldable pub row_lines : ℕ → ℕ → List Float → List ℕ → List Float → List ℕ
row_lines n zero times sides values = []
row_lines n (suc k) times sides values = row_lines n k times sides values ++ row_at n k times sides values

-- ---- their length
unfoldable pub rows_length : ℕ → ℕ → List ℕ → ℕ
rows_length n zero sides = 0
rows_length n (suc k) sides = rows_length n k sides + row_length n (get_or sides k 0)
