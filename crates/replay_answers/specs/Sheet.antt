-- A sheet in a line: how many bytes it has, the printout's number, the sheet's words, the printout. Definitions only.
use Rattle.std.specs.Prelude.{ℕ, cond, ◌&&◌, List, [], length, take, eqb, leb, ltb, Option, Some, None, option_and_then}
use Rattle.std.specs.Int.{w64, to_le_bytes, div_ceil}
use Rattle.std.specs.List.{flat_map, position_or_len, before_first, after_first}
use Rattle.replay_numbers.specs.Text.{number_of}
use Rattle.replay_answers.specs.Words.{line_numbers}

-- what stands before and behind the first semicolon
unfoldable pub parted_of : List ℕ → Option (List ℕ × List ℕ)
parted_of text =
    cond (ltb (position_or_len (λ b. eqb b 59) text) (length text))
    (Some (before_first (λ b. eqb b 59) text, after_first (λ b. eqb b 59) text))
    None

-- the bytes of words, low ones first
abbrev pub bytes_of : List ℕ → List ℕ
bytes_of words = flat_map (to_le_bytes w64) words

-- the numbers of a text, of which an empty one has none
unfoldable pub sheet_words : List ℕ → Option (List ℕ)
sheet_words text = cond (eqb (length text) 0) (Some []) (line_numbers text)

-- the bytes, of which the last word may have too many; the number, and the printout
unfoldable pub sheet_of : List ℕ → Option (List ℕ × ℕ × List ℕ)
sheet_of line =
    option_and_then (λ a. option_and_then (λ b. option_and_then (λ c.
    option_and_then (λ count. option_and_then (λ number. option_and_then (λ words.
    cond (leb count 65544 && eqb (length words) (div_ceil count 8)) (Some (take count (bytes_of words), number, c.1)) None)
    (sheet_words c.0)) (number_of b.0)) (number_of a.0))
    (parted_of b.1)) (parted_of a.1)) (parted_of line)
