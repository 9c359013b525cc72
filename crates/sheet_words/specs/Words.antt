-- 01, "The sheet and its printout": little-endian 64-bit words. Definitions only.
use Rattle.std.specs.Prelude.{List, [], ◌∷◌, ℕ, ◌+◌, ◌*◌, ◌/◌, length, get_or, take, drop}
use Rattle.matrix.specs.Matrix.{tabulate}

abbrev pub little_endian : List ℕ → ℕ
little_endian [] = 0
little_endian (b ∷ bs) = b + 256 * little_endian bs

-- the whole words of a file, or of a part of it
unfoldable pub words_of : List ℕ → List ℕ
words_of bs = tabulate (length bs / 8) (λ i. little_endian (take 8 (drop (8 * i) bs)))

abbrev pub word : List ℕ → ℕ → ℕ
word ws i = get_or ws i 0
