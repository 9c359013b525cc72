-- How many bytes a run's printout has. Definitions only.
use Rattle.std.specs.Prelude.{ℕ, ◌+◌, cond, List, eqb}
use Rattle.printout_numbers.specs.Digits.{places}
use Rattle.printout_rows.specs.Rows.{rows_length}

unfoldable pub text_length : ℕ → ℕ → ℕ → List ℕ → ℕ
text_length number rows n sides = cond (eqb number 0) (31 + places 19 rows + rows_length n rows sides) (26 + places 19 number)
