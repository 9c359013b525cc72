-- 01, "The sheet and its printout": the head of a sheet, and five bodies one behind the other. Definitions only.
use Rattle.std.specs.Prelude.{Bool, ◌&&◌, List, [], ◌∷◌, ℕ, ◌+◌, ◌*◌, ◌/◌, ◌%◌, eqb, leb, length, take, drop}
use Rattle.sheet_words.specs.Words.{word}

-- body k: its first word and its word count, as its pair says
abbrev pub first_word : List ℕ → ℕ → ℕ
first_word ws k = word ws (1 + 2 * k)

abbrev pub word_count : List ℕ → ℕ → ℕ
word_count ws k = word ws (2 + 2 * k)

abbrev pub body : List ℕ → ℕ → List ℕ
body ws k = take (word_count ws k) (drop (first_word ws k) ws)

-- the bodies ks, of which the first starts at a place, each start where the one before ends, to the file's end
abbrev pub follow : List ℕ → ℕ → List ℕ → Bool
follow ws at [] = eqb at (length ws)
follow ws at (k ∷ ks) = eqb (first_word ws k) at && (leb (at + word_count ws k) (length ws) && follow ws (at + word_count ws k) ks)

-- word 0 is 5, then five pairs, then the bodies
unfoldable pub placed : List ℕ → Bool
placed ws = leb 11 (length ws) && (eqb (word ws 0) 5 && follow ws 11 (0 ∷ 1 ∷ 2 ∷ 3 ∷ 4 ∷ []))

-- whole words, at most 8,192
abbrev pub words_fit : List ℕ → Bool
words_fit bs = eqb (length bs % 8) 0 && leb (length bs / 8) 8192
