-- A row of a run's printout: 01, "The sheet and its printout". A text is the list of its bytes; numbers are in
-- `printout_numbers/specs/Digits.antt`. Definitions only.
use Rattle.std.specs.Prelude.{ℕ, ◌+◌, ◌*◌, cond, List, [], ◌∷◌, ◌++◌, eqb, Float}
use Rattle.printout_numbers.specs.Digits.{double_text}

-- "pre" where the side is 1, else "post"
unfoldable pub side_text : ℕ → List ℕ
side_text s = cond (eqb s 1) (112 ∷ 114 ∷ 101 ∷ []) (112 ∷ 111 ∷ 115 ∷ 116 ∷ [])

-- each with a space in front
unfoldable pub amounts_text : List Float → List ℕ
amounts_text [] = []
amounts_text (x ∷ xs) = (32 ∷ double_text x) ++ amounts_text xs

-- time, side, amounts
unfoldable pub row_line : Float → ℕ → List Float → List ℕ
row_line time side amounts = double_text time ++ (32 ∷ []) ++ side_text side ++ amounts_text amounts ++ (10 ∷ [])

-- ---- its length
abbrev pub side_length : ℕ → ℕ
side_length s = cond (eqb s 1) 3 4

abbrev pub row_length : ℕ → ℕ → ℕ
row_length n side = 18 + side_length side + 17 * n
