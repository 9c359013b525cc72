-- Texts that grow in lent bytes. Definitions only.
use Rattle.std.specs.Prelude.{ℕ, ◌+◌, ◌≡◌, ◌≤◌, List, length}
use Rattle.printout_numbers.specs.Written.{Wrote}
use Rattle.printout_numbers.specs.declared.Writer.{Writer}

-- so many bytes have room behind what is written
abbrev pub HasRoom : ℕ → Writer → Type 0
HasRoom n w = w.at + n ≤ length w.out.now

-- the text is written in the same lent bytes, which are otherwise as they were
pub record Writes (text : List ℕ) (old new : Writer) : Type 0 where
  pub lent : new.out.ghost_name ≡ old.out.ghost_name
  pub wrote : Wrote text old.at old.out.now new.at new.out.now
