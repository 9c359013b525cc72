-- What the code's arrays stand for.
use Rattle.std.specs.Prelude.{ℕ, List, take, Float}
use Rattle.matrix.specs.Matrix.{Matrix}
use Rattle.matrix.specs.Arrays.{lead}
use Rattle.cycle.specs.Elimination.{System}

-- the system in the leading part of two arrays
abbrev pub held : ℕ → Matrix → List Float → System
held n a b = record { matrix = lead n a; right = take n b }
