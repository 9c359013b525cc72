-- 01, "The sheet and its printout": what a sheet's words stand for. Doubles are their bits. Definitions only.
use Rattle.std.specs.Prelude.{cond, List, ℕ, ◌+◌, ◌-◌, eqb, Float, Option, Some, None}
use Rattle.refusal.specs.Result.{Result}
use Rattle.linear_pk.specs.LinearPk.{new}
use Rattle.linear_pk.specs.declared.kernel.LinearPk.{LinearPk}
use Rattle.sheet_words.specs.Words.{word}
pub use Rattle.sheet_values.specs.Values.{double_of, doubles_from, propagations_of}
unfoldable pub use Rattle.sheet_values.specs.Values.{sheet_window}

-- ---- the model: clearance, depot, absorption, volume count, volumes, exchanges
abbrev pub volumes_of : List ℕ → List Float
volumes_of m = doubles_from m 4 (word m 3)

abbrev pub exchanges_of : List ℕ → List Float
exchanges_of m = doubles_from m (4 + word m 3) (word m 3 - 1)

-- absorption without a depot may hold anything
abbrev pub model_absorption : List ℕ → Option Float
model_absorption m = cond (eqb (word m 1) 1) (Some (double_of m 2)) None

unfoldable pub model_of : List ℕ → Result LinearPk
model_of m = new (double_of m 0) (volumes_of m) (exchanges_of m) (model_absorption m)
