-- How long the lines are.
use mathlib.Core.Path.{◌≡◌}
use Prim.Native.Nat.{ℕ, ◌+◌}
use native.Mathlib.Omega.{arith}
use lib.ListN.{length, length-append}
use lib.Ieee.{Float}
use Rattle.printout_numbers.specs.Digits.{places}
use Rattle.printout_numbers.proofs.Counts.{decimal-length, double_length}
use Rattle.printout_lines.specs.Lines.{head_line, ordered_line, refused_text}

pub head_length : (rows : ℕ) → length (head_line rows) ≡ 6 + places 19 rows
unfolding head_line
head_length rows = simp (length-append, decimal-length) (omega arith)

pub ordered-length : (ordered : Float) → length (ordered_line ordered) ≡ 25
unfolding ordered_line
ordered-length ordered = simp (length-append, double_length)

pub refused-text-length : (number : ℕ) (time : Float) → length (refused_text number time) ≡ 26 + places 19 number
unfolding refused_text
refused-text-length number time = simp (length-append, decimal-length, double_length) (omega arith)

pub ruleset lengths = (head_length, ordered-length, refused-text-length, decimal-length, double_length)
