-- Bytes written into lent cells. Definitions only.
use Rattle.std.specs.Prelude.{ℕ, ◌+◌, ◌≡◌, List, length}
use Rattle.std.proofs.lemmas.List.Edits.{sets}

-- the text stands in the cells from place `at` on, the others are as they were, and `end` is the place behind it
pub record Wrote (text : List ℕ) (at : ℕ) (old : List ℕ) (end : ℕ) (new : List ℕ) : Type 0 where
  pub place : end ≡ at + length text
  pub cells : new ≡ sets old at text
  pub same : length new ≡ length old
