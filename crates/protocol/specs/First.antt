-- Tests in order: the number of the first that fails. Definitions only.
use Rattle.std.specs.Prelude.{Bool, true, false, List, [], ◌∷◌, ℕ}
use Rattle.std.proofs.Math.Option.{Option, some, none}

-- the number, unless the test passes
abbrev pub unless : Bool → ℕ → Option ℕ
unless true c = none
unless false c = some c

-- the first number
abbrev pub first_of : List (Option ℕ) → Option ℕ
first_of [] = none
first_of (none ∷ cs) = first_of cs
first_of (some c ∷ cs) = some c
