-- 01, "Amounts and concentrations": the solution of dA/dt = K·A + R over an interval with constant input rates R, for a matrix of rates K.
-- The exponential of a duration is in `linear_pk_propagator/specs/Propagator.antt`, an amount after it in `linear_pk_propagator/specs/Amounts.antt`.
use Rattle.std.specs.Prelude.{Bool, true, false, List, ℕ, Float}
use Rattle.std.specs.Float.{binary64}
use Rattle.std.specs.Float.Ieee.{mul, eq}
use Rattle.std.specs.Float.Ieee.Scale.{finite}
use Rattle.binary64.specs.Doubles.{plus_zero, nonnegative}
use Rattle.matrix.specs.Matrix.{Matrix, cell, tabulate, all_to}
use Rattle.binary64.specs.Lists.{all}
use Rattle.refusal.specs.Result.{Result, done, and_then, unless}
use Rattle.matrix.specs.Exponential.{Scheme}
pub use Rattle.linear_pk_propagator.specs.Propagator.{entry}
unfoldable pub use Rattle.linear_pk_propagator.specs.Propagator.{block_cell, propagator}
unfoldable pub use Rattle.linear_pk_propagator.specs.Amounts.{amount_to}

-- 22 where a rate·duration is not finite, or an amount is not finite or below 0
unfoldable pub propagated : ℕ → Matrix → List Float → List Float → Float → Result (List Float)
propagated n p x r d =
    and_then (unless (all_to (λ j. finite (mul binary64 (cell r j) d)) n) 22 (tabulate n (λ i. amount_to p n x r d i n)))
    (λ y. unless (all nonnegative y) 22 y)

-- duration 0 hands the amounts back before any exponential
abbrev pub over : Bool → List Float → Result (List Float) → Result (List Float)
over true x r = done x
over false x r = r

-- the amounts x of n states after a duration d, at the rates k and the input rates r
unfoldable pub interval : Scheme → ℕ → List Float → List Float → List Float → Float → Result (List Float)
interval s n k x r d = over (eq d plus_zero) x (and_then (propagator s n k d) (λ e. propagated n e.matrix x r d))
