-- The bytes of a run's printout: 01, "The sheet and its printout". A text is the list of its bytes; numbers are in
-- `printout_numbers/specs/Digits.antt`. Definitions only.
use Rattle.std.specs.Prelude.{ℕ, cond, List, ◌++◌, eqb, Float}
unfoldable pub use Rattle.printout_numbers.specs.Digits.{glyph, digits, places, decimal, hexadecimal, bits_of, double_text}
unfoldable pub use Rattle.printout_rows.specs.Row.{side_text, amounts_text, row_line}
pub use Rattle.printout_rows.specs.Row.{side_length, row_length}
unfoldable pub use Rattle.printout_rows.specs.Rows.{row_lines, rows_length}
pub use Rattle.printout_rows.specs.Rows.{row_at}
unfoldable pub use Rattle.printout_lines.specs.Lines.{head_line, ordered_line, refused_text}
unfoldable pub use Rattle.printout_lines.specs.Length.{text_length}

unfoldable pub rows_text : ℕ → ℕ → Float → List Float → List ℕ → List Float → List ℕ
rows_text rows n ordered times sides values = head_line rows ++ row_lines n rows times sides values ++ ordered_line ordered

-- the number 0 stands for no refusal
unfoldable pub run_text : ℕ → Float → ℕ → ℕ → Float → List Float → List ℕ → List Float → List ℕ
run_text number time rows n ordered times sides values =
    cond (eqb number 0) (rows_text rows n ordered times sides values) (refused_text number time)
