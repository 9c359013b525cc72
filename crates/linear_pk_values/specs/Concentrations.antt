-- 01, "Amounts and concentrations": amount by volume, the depot skipped.
use Rattle.std.specs.Prelude.{Bool, List, ℕ, ◌+◌, leb, Float}
use Rattle.std.specs.Float.{binary64}
use Rattle.std.specs.Float.Ieee.{div}
use Rattle.std.specs.Float.Ieee.Scale.{finite}
use Rattle.matrix.specs.Matrix.{cell, tabulate}
use Rattle.binary64.specs.Lists.{all, amounts_pass}
use Rattle.refusal.specs.Result.{Result, and_then, unless}
use Rattle.linear_pk_mammillary.specs.Rates.{central}

-- of compartment i, by the volumes vs, from the amounts x
abbrev pub concentration : Bool → List Float → List Float → ℕ → Float
concentration depot vs x i = div binary64 (cell x (i + central depot)) (cell vs i)

-- of v compartments in n states, for a slice of `room` cells
unfoldable pub concentrations : ℕ → ℕ → Bool → List Float → List Float → ℕ → Result (List Float)
concentrations n v depot vs x room =
    and_then (unless (amounts_pass n x) 3 x)
    (λ _. and_then (unless (leb v room) 4 (tabulate v (concentration depot vs x)))
    (λ y. unless (all finite y) 23 y))
