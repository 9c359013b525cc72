-- 01, "The sheet and its printout": the model's body. Definitions only.
use Rattle.std.specs.Prelude.{Bool, ◌&&◌, List, ℕ, ◌+◌, ◌*◌, eqb, leb, length}
use Rattle.limits.specs.Limits.{most_volumes}
use Rattle.sheet_words.specs.Words.{word}

-- clearance, depot 0 or 1, absorption, volume count 1 to 3, volumes, exchanges
unfoldable pub model_fits : List ℕ → Bool
model_fits m = leb 4 (length m) && (leb (word m 1) 1 && (leb 1 (word m 3) && (leb (word m 3) most_volumes && eqb (length m) (2 * word m 3 + 3))))
