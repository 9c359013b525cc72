-- 01, "The sheet and its printout": what a printout is. Definitions only.
use Rattle.std.specs.Prelude.{Bool, cond, not, ◌&&◌, List, ℕ, eqb, leb, length}

-- the number and the bytes of a printout
pub record Printout : Type 0 where
  pub number : ℕ
  pub text : List ℕ

-- ---- the reply of the entry: 4 for an answer that has no room, else the printout's own number, 0 or the refusal's
abbrev pub number_or_short : ℕ → Bool → ℕ
number_or_short c short = cond (eqb c 0 && short) 4 c

abbrev pub number_into : List ℕ → Printout → ℕ
number_into old p = number_or_short p.number (not (leb (length p.text) (length old)))
