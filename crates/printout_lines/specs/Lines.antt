-- The first line, the last line and the refusal of a printout: 01, "The sheet and its printout". A text is the list of its bytes; numbers
-- are in `printout_numbers/specs/Digits.antt`. Definitions only.
use Rattle.std.specs.Prelude.{ℕ, List, [], ◌∷◌, ◌++◌, Float}
use Rattle.printout_numbers.specs.Digits.{decimal, double_text}

-- "rows" and their number
unfoldable pub head_line : ℕ → List ℕ
head_line rows = (114 ∷ 111 ∷ 119 ∷ 115 ∷ 32 ∷ []) ++ decimal rows ++ (10 ∷ [])

-- a name and a double
abbrev pub named_line : List ℕ → Float → List ℕ
named_line name x = name ++ double_text x ++ (10 ∷ [])

-- "ordered" and the sum
unfoldable pub ordered_line : Float → List ℕ
ordered_line ordered = named_line (111 ∷ 114 ∷ 100 ∷ 101 ∷ 114 ∷ 101 ∷ 100 ∷ 32 ∷ []) ordered

-- "refused", the number, the time
unfoldable pub refused_text : ℕ → Float → List ℕ
refused_text number time = (114 ∷ 101 ∷ 102 ∷ 117 ∷ 115 ∷ 101 ∷ 100 ∷ 32 ∷ []) ++ decimal number ++ (32 ∷ []) ++ double_text time ++ (10 ∷ [])
