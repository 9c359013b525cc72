-- Words of bytes.
use mathlib.Core.Path.{◌≡◌}
use mathlib.Core.List.{List, [], ◌∷◌}
use Rattle.std.specs.Int.{w64, from_le_bytes}
use Prim.Native.Nat.{ℕ, ◌+◌, ◌*◌, ◌/◌, ◌≤◌}
use native.Mathlib.Omega.{arith}
use lib.ListN.{length, take, drop}
use Rattle.matrix.proofs.Filled.{tabulate-at, tabulate-length}
use Rattle.sheet_words.specs.Words.{little_endian, words_of, word}

-- eight bytes, as the library reads them
pub eight : (bs : List ℕ) → length bs ≡ 8 → from_le_bytes w64 bs ≡ little_endian bs
eight (a ∷ b ∷ c ∷ d ∷ e ∷ f ∷ g ∷ h ∷ []) q = omega arith
eight [] q = absurd (omega arith)
eight (a ∷ []) q = absurd (omega arith)
eight (a ∷ b ∷ []) q = absurd (omega arith)
eight (a ∷ b ∷ c ∷ []) q = absurd (omega arith)
eight (a ∷ b ∷ c ∷ d ∷ []) q = absurd (omega arith)
eight (a ∷ b ∷ c ∷ d ∷ e ∷ []) q = absurd (omega arith)
eight (a ∷ b ∷ c ∷ d ∷ e ∷ f ∷ []) q = absurd (omega arith)
eight (a ∷ b ∷ c ∷ d ∷ e ∷ f ∷ g ∷ []) q = absurd (omega arith)
eight (a ∷ b ∷ c ∷ d ∷ e ∷ f ∷ g ∷ h ∷ i ∷ bs) q = absurd (omega arith)

pub word_at : (bs : List ℕ) (i : ℕ) → 8 * i + 8 ≤ length bs → word (words_of bs) i ≡ little_endian (take 8 (drop (8 * i) bs))
unfolding words_of
word_at bs i h = tabulate-at (λ (j : ℕ). little_endian (take 8 (drop (8 * j) bs))) 0 (length bs / 8) i (omega arith)

pub words-length : (bs : List ℕ) → length (words_of bs) ≡ length bs / 8
unfolding words_of
words-length bs = tabulate-length (λ (i : ℕ). little_endian (take 8 (drop (8 * i) bs))) (length bs / 8)
