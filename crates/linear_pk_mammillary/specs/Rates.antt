-- 01, "Amounts and concentrations": the rates of the mammillary model (one to three compartments, an optional depot), those of the compartment
-- equations dA/dt = K·A + R (Gibaldi and Perrier, Pharmacokinetics, 1982, ch. 2). Absorption is given by whether there is a depot, and its rate.
use Rattle.std.specs.Prelude.{Bool, ◌&&◌, cond, List, ℕ, zero, suc, ◌-◌, ◌/◌, ◌%◌, eqb, ltb, length, Float, Option, is_some, unwrap_or}
use Rattle.std.specs.Float.{binary64}
use Rattle.std.specs.Float.Ieee.{sub, div, neg}
use Rattle.limits.specs.Limits.{states}
use Rattle.binary64.specs.Doubles.{plus_zero}
use Rattle.matrix.specs.Matrix.{cell, tabulate}

-- ---- first-order absorption from a depot by its rate, or none
abbrev pub depot_of : Option Float → Bool
depot_of a = is_some a

-- the absorption's rate; +0 stands for none
abbrev pub absorbed : Option Float → Float
absorbed a = unwrap_or a plus_zero

-- ---- the rates
-- the place of the central state: behind the depot, if there is one
abbrev pub central : Bool → ℕ
central depot = cond depot 1 0

-- −CL/V0, then minus q/V0 for each of the first k exchanges in turn
unfoldable pub diagonal_to : Float → List Float → List Float → ℕ → Float
diagonal_to cl vs qs zero = div binary64 (neg cl) (cell vs 0)
diagonal_to cl vs qs (suc e) = sub binary64 (diagonal_to cl vs qs e) (div binary64 (cell qs e) (cell vs 0))

-- to central, at central c, from the compartment j: its own diagonal, or q/Vj of a peripheral
abbrev pub central_rate : Float → List Float → List Float → ℕ → ℕ → Float
central_rate cl vs qs c j = cond (eqb j c) (diagonal_to cl vs qs (length qs)) (div binary64 (cell qs (j - c - 1)) (cell vs (j - c)))

-- to the peripheral i: q/V0 from central, −q/Vi from itself
abbrev pub peripheral_rate : List Float → List Float → ℕ → ℕ → ℕ → Float
peripheral_rate vs qs c i j =
    cond (eqb j c) (div binary64 (cell qs (i - c - 1)) (cell vs 0))
    (cond (eqb j i) (div binary64 (neg (cell qs (i - c - 1))) (cell vs (i - c))) plus_zero)

-- the rate to state i from state j; the depot gives k to central
unfoldable pub mammillary_rate : Float → List Float → List Float → Bool → Float → ℕ → ℕ → Float
unfolding diagonal_to
mammillary_rate cl vs qs depot k i j =
    let c = central depot in
    cond (ltb i c) (cond (ltb j c) (neg k) plus_zero)
    (cond (eqb i c) (cond (ltb j c) k (central_rate cl vs qs c j)) (peripheral_rate vs qs c i j))

-- ---- places past the volumes and outside the n by n part hold +0
abbrev pub padded_cell : List Float → ℕ → Float
padded_cell xs i = cond (ltb i (length xs)) (cell xs i) plus_zero

-- the first xs, then +0, w in all
unfoldable pub padded : ℕ → List Float → List Float
padded w xs = tabulate w (padded_cell xs)

-- the rate at central c of the cells, in a matrix of n states
abbrev pub padded_rate : Float → List Float → List Float → Bool → Float → ℕ → ℕ → Float
padded_rate cl vs qs depot k n c = cond (ltb (c / states) n && ltb (c % states) n) (mammillary_rate cl vs qs depot k (c / states) (c % states)) plus_zero
