-- Printouts worked out byte by byte: 01's example, a refusal, and numbers in decimal.
use mathlib.Core.Path.{◌≡◌, refl}
use mathlib.Core.Bool.{true, false}
use mathlib.Core.List.{[], ◌∷◌}
use Prim.Native.Nat.{ℕ}
use lib.IntN.{pos}
use lib.Ieee.{Float, nan, fin, to_bits}
use Rattle.binary64.specs.Doubles.{plus_zero, one}
use Rattle.printout.specs.Printout.{glyph, digits, places, decimal, hexadecimal, bits_of, double_text, side_text, amounts_text, row_line}
use Rattle.printout.specs.Printout.{row_lines, head_line, ordered_line, rows_text, refused_text, run_text, rows_length, text_length}

unfoldable opened : ℕ
unfolding glyph digits places decimal hexadecimal bits_of to_bits double_text side_text amounts_text row_line row_lines head_line ordered_line
    rows_text refused_text run_text rows_length text_length
opened = 0

abbrev three : Float
three = fin false 3 (pos 0)

abbrev four : Float
four = fin false 1 (pos 2)

-- amount 3, a bolus of 1 at 0, window 0 to 1: three rows
three-rows : run_text 0 plus_zero 3 1 one (plus_zero ∷ plus_zero ∷ one ∷ []) (1 ∷ 2 ∷ 2 ∷ []) (three ∷ four ∷ four ∷ []) ≡
    114 ∷ 111 ∷ 119 ∷ 115 ∷ 32 ∷ 51 ∷ 10 ∷
    48 ∷ 48 ∷ 48 ∷ 48 ∷ 48 ∷ 48 ∷ 48 ∷ 48 ∷ 48 ∷ 48 ∷ 48 ∷ 48 ∷ 48 ∷ 48 ∷ 48 ∷ 48 ∷ 32 ∷ 112 ∷ 114 ∷ 101 ∷ 32 ∷ 52 ∷ 48 ∷ 48 ∷ 56 ∷ 48 ∷ 48
    ∷ 48 ∷ 48 ∷ 48 ∷ 48 ∷ 48 ∷ 48 ∷ 48 ∷ 48 ∷ 48 ∷ 48 ∷ 10 ∷
    48 ∷ 48 ∷ 48 ∷ 48 ∷ 48 ∷ 48 ∷ 48 ∷ 48 ∷ 48 ∷ 48 ∷ 48 ∷ 48 ∷ 48 ∷ 48 ∷ 48 ∷ 48 ∷ 32 ∷ 112 ∷ 111 ∷ 115 ∷ 116 ∷ 32 ∷ 52 ∷ 48 ∷ 49 ∷ 48 ∷ 48
    ∷ 48 ∷ 48 ∷ 48 ∷ 48 ∷ 48 ∷ 48 ∷ 48 ∷ 48 ∷ 48 ∷ 48 ∷ 48 ∷ 10 ∷
    51 ∷ 102 ∷ 102 ∷ 48 ∷ 48 ∷ 48 ∷ 48 ∷ 48 ∷ 48 ∷ 48 ∷ 48 ∷ 48 ∷ 48 ∷ 48 ∷ 48 ∷ 48 ∷ 32 ∷ 112 ∷ 111 ∷ 115 ∷ 116 ∷ 32 ∷ 52 ∷ 48 ∷ 49 ∷ 48
    ∷ 48 ∷ 48 ∷ 48 ∷ 48 ∷ 48 ∷ 48 ∷ 48 ∷ 48 ∷ 48 ∷ 48 ∷ 48 ∷ 48 ∷ 10 ∷
    111 ∷ 114 ∷ 100 ∷ 101 ∷ 114 ∷ 101 ∷ 100 ∷ 32 ∷ 51 ∷ 102 ∷ 102 ∷ 48 ∷ 48 ∷ 48 ∷ 48 ∷ 48 ∷ 48 ∷ 48 ∷ 48 ∷ 48 ∷ 48 ∷ 48 ∷ 48 ∷ 48 ∷ 10 ∷ []
unfolding opened
three-rows = refl

three-rows-length : text_length 0 3 1 (1 ∷ 2 ∷ 2 ∷ []) ≡ 148
unfolding opened
three-rows-length = refl

-- "refused 40" and the NaN's bits
refused : run_text 40 nan 0 1 one [] [] [] ≡
    114 ∷ 101 ∷ 102 ∷ 117 ∷ 115 ∷ 101 ∷ 100 ∷ 32 ∷ 52 ∷ 48 ∷ 32 ∷ 55 ∷ 102 ∷ 102 ∷ 56 ∷ 48 ∷ 48 ∷ 48 ∷ 48 ∷ 48 ∷ 48 ∷ 48 ∷ 48 ∷ 48 ∷ 48 ∷ 48 ∷ 48 ∷ 10 ∷ []
unfolding opened
refused = refl

-- "0", "1026" and the largest word
none : decimal 0 ≡ 48 ∷ []
unfolding opened
none = refl

rows : decimal 1026 ≡ 49 ∷ 48 ∷ 50 ∷ 54 ∷ []
unfolding opened
rows = refl

largest : decimal 18446744073709551615 ≡ 49 ∷ 56 ∷ 52 ∷ 52 ∷ 54 ∷ 55 ∷ 52 ∷ 52 ∷ 48 ∷ 55 ∷ 51 ∷ 55 ∷ 48 ∷ 57 ∷ 53 ∷ 53 ∷ 49 ∷ 54 ∷ 49 ∷ 53 ∷ []
unfolding opened
largest = refl

-- "ffefffffffffffff", the lowest finite double
lowest : double_text (fin true 9007199254740991 (pos 971)) ≡ 102 ∷ 102 ∷ 101 ∷ 102 ∷ 102 ∷ 102 ∷ 102 ∷ 102 ∷ 102 ∷ 102 ∷ 102 ∷ 102 ∷ 102 ∷ 102 ∷ 102 ∷ 102 ∷ []
unfolding opened
lowest = refl
