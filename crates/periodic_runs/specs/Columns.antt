-- What the code's columns stand for. Definitions only.
use Rattle.std.specs.Prelude.{List, [], ℕ, get_or, take, Float}
use Rattle.matrix.specs.Matrix.{tabulate}

-- the first j columns, of n amounts each: column i is row i of the array
abbrev pub columns_of : ℕ → List (List Float) → ℕ → List (List Float)
columns_of n cs j = tabulate j (λ (i : ℕ). take n (get_or cs i []))
