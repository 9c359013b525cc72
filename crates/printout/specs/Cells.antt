-- Bytes written into lent cells. Definitions only.
use Rattle.std.specs.Prelude.{ℕ, cond, List, ◌++◌, leb, length, drop}
pub use Rattle.printout_numbers.specs.Written.{Wrote}

-- how many bytes are written from the front on: the whole text, or none where it has no room
abbrev pub printed_length : List ℕ → List ℕ → ℕ
printed_length text old = cond (leb (length text) (length old)) (length text) 0

-- the cells then
abbrev pub printed : List ℕ → List ℕ → List ℕ
printed text old = cond (leb (length text) (length old)) (text ++ drop (length text) old) old
