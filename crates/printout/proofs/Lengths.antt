-- How long the texts are.
use mathlib.Core.Path.{◌≡◌}
use mathlib.Core.Bool.{Bool, true, false, cond}
use mathlib.Core.List.{List}
use Prim.Native.Nat.{ℕ, ◌+◌, ◌*◌, ◌≤◌}
use native.Mathlib.Omega.{arith}
use lib.Dec.{eqb}
use lib.ListN.{length, length-append}
use lib.Ieee.{Float}
use Rattle.printout.specs.Printout.{places, row_lines, head_line, ordered_line, rows_text, refused_text, run_text, rows_length, text_length}
pub use Rattle.printout_numbers.proofs.Counts.{decimal-length, double_length, places-most, places-end, places-last, places_more}
pub use Rattle.printout_rows.proofs.Lengths.{rows-length, part-size}
pub use Rattle.printout_lines.proofs.Lengths.{head_length, ordered-length, refused-text-length}

pub rows-text-parts : (rows n : ℕ) (ordered : Float) (times : List Float) (sides : List ℕ) (values : List Float)
    → length (rows_text rows n ordered times sides values) ≡ length (head_line rows) + length (row_lines n rows times sides values) + length (ordered_line ordered)
unfolding rows_text
rows-text-parts rows n ordered times sides values = simp length-append

pub rows-text-length : (rows n : ℕ) (ordered : Float) (times : List Float) (sides : List ℕ) (values : List Float) → rows * n ≤ length values
    → length (rows_text rows n ordered times sides values) ≡ 31 + places 19 rows + rows_length n rows sides
rows-text-length rows n ordered times sides values h =
    omega (arith, rows-text-parts rows n ordered times sides values, head_length rows, rows-length n times sides values rows h, ordered-length ordered)

-- the length is that of the text
pub text-length : (number : ℕ) (time : Float) (rows n : ℕ) (ordered : Float) (times : List Float) (sides : List ℕ) (values : List Float)
    → rows * n ≤ length values
    → length (run_text number time rows n ordered times sides values) ≡ text_length number rows n sides
unfolding run_text text_length
text-length number time rows n ordered times sides values h =
    go (rows_text rows n ordered times sides values) (refused_text number time) (eqb number 0)
    (rows-text-length rows n ordered times sides values h) (refused-text-length number time)
  where
    go : (a b : List ℕ) {i j : ℕ} (t : Bool) → length a ≡ i → length b ≡ j → length (cond t a b) ≡ cond t i j
    go a b true p q = p
    go a b false p q = q
