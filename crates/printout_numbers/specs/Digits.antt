-- Numbers as text, the list of its bytes: 01, "The sheet and its printout". Definitions only.
use Rattle.std.specs.Prelude.{ℕ, zero, suc, ◌+◌, ◌/◌, ◌%◌, cond, List, [], ◌∷◌, ◌++◌, ltb, Float}
use Rattle.std.specs.Float.{binary64}
use Rattle.std.specs.Float.Ieee.{to_bits}

-- the code of a digit below 16: 0 to 9, then a to f in lower case
unfoldable pub glyph : ℕ → ℕ
glyph d = cond (ltb d 10) (48 + d) (87 + d)

-- the last k digits of w in base b, the highest first
unfoldable pub digits : ℕ → ℕ → ℕ → List ℕ
digits b zero w = []
digits b (suc k) w = digits b k (w / b) ++ (glyph (w % b) ∷ [])

-- how many decimal digits w has, where that is at most one more than `most`
unfoldable pub places : ℕ → ℕ → ℕ
places zero w = 1
places (suc most) w = cond (ltb w 10) 1 (suc (places most (w / 10)))

-- in decimal, with no leading zeros; 0 is one digit. A number of 64 bits has at most 20.
unfoldable pub decimal : ℕ → List ℕ
decimal w = digits 10 (places 19 w) w

-- a word of 64 bits in hexadecimal, 16 digits
unfoldable pub hexadecimal : ℕ → List ℕ
hexadecimal w = digits 16 16 w

-- a double's bits; the one NaN's are 7ff8000000000000
unfoldable pub bits_of : Float → ℕ
bits_of x = to_bits binary64 x

unfoldable pub double_text : Float → List ℕ
double_text x = hexadecimal (bits_of x)
