-- The number of tests in order.
use Rattle.std.proofs.Math.Option.{Option, some, none}
use Rattle.std.specs.Prelude.{ℕ}

-- the number of the first test that fails; 0 stands for none
abbrev pub option_number : Option ℕ → ℕ
option_number none = 0
option_number (some c) = c
