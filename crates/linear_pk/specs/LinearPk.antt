-- 01, "Amounts and concentrations": the mammillary model (one to three compartments, an optional depot). Its rates are in `linear_pk_mammillary/specs/Rates.antt`,
-- their solution over an interval in `linear_pk_interval/specs/Interval.antt`, amounts by volume in `linear_pk_values/specs/Concentrations.antt`.
use Rattle.std.specs.Prelude.{Bool, false, ◌&&◌, cond, List, ℕ, ◌+◌, ◌-◌, ◌*◌, eqb, ltb, leb, length, replicate, take, Float, Option}
use Rattle.std.specs.Float.Ieee.Scale.{finite}
use Rattle.limits.specs.Limits.{states, most_volumes}
use Rattle.binary64.specs.Doubles.{plus_zero, nonnegative, positive}
use Rattle.matrix.specs.Matrix.{tabulate, all_to}
use Rattle.binary64.specs.Lists.{all, amounts_pass}
use Rattle.refusal.specs.Result.{Result, and_then, unless}
use Rattle.matrix.specs.Exponential.{Scheme}
use Rattle.linear_pk_interval.specs.Interval.{entry, interval}
pub use Rattle.linear_pk_mammillary.specs.Rates.{central, central_rate, peripheral_rate, padded_cell, padded_rate}
unfoldable pub use Rattle.linear_pk_mammillary.specs.Rates.{diagonal_to, mammillary_rate, padded}
use Rattle.linear_pk_values.specs.Concentrations.{concentrations as concentrationsOf}
pub use Rattle.linear_pk_values.specs.Parameters.{depot_of, absorbed}
unfoldable pub use Rattle.linear_pk_values.specs.Parameters.{parameters_pass}
use Rattle.linear_pk.specs.declared.kernel.LinearPk.{LinearPk}
use Rattle.linear_pk.specs.declared.bind.BoundLinearPk.{BoundLinearPk}

-- ---- the kernel as a value: places past the volumes and outside the n by n part hold +0
unfoldable pub kernel_of : Float → List Float → List Float → Option Float → LinearPk
kernel_of cl vs qs a = record {
  compartments = length vs;
  depot = depot_of a;
  volumes = padded most_volumes vs;
  matrix = tabulate (states * states) (padded_rate cl vs qs (depot_of a) (absorbed a) (length vs + central (depot_of a)));
}

-- the kernel of no volumes: zeros
abbrev pub no_kernel : LinearPk
no_kernel = record { compartments = 0; depot = false; volumes = replicate most_volumes plus_zero; matrix = replicate (states * states) plus_zero }

-- 1 to 3 volumes
abbrev pub compartments_pass : LinearPk → Bool
compartments_pass k = ltb 0 k.compartments && leb k.compartments most_volumes

-- how many states; 0 where there are not 1 to 3 volumes
unfoldable pub state_count : LinearPk → ℕ
state_count k = cond (compartments_pass k) (k.compartments + central k.depot) 0

unfoldable pub matrix_finite : LinearPk → Bool
matrix_finite k = all_to (λ i. all_to (λ j. finite (entry k.matrix i j)) (state_count k)) (state_count k)

-- 1 to 3 volumes, and each of them finite and above 0
abbrev pub volumes_pass : LinearPk → Bool
volumes_pass k = compartments_pass k && all positive (take k.compartments k.volumes)

-- a kernel's own test: 1 by its volumes, 2 by a rate that is not finite
abbrev pub sound : LinearPk → Result LinearPk
sound k = and_then (unless (volumes_pass k) 1 k) (λ k. unless (matrix_finite k) 2 k)

-- ---- `new`
-- 1 to 3 volumes, one exchange fewer, and the values
unfoldable pub passes : Float → List Float → List Float → Option Float → Bool
passes cl vs qs a = (ltb 0 (length vs) && leb (length vs) most_volumes) && (eqb (length qs) (length vs - 1) && parameters_pass cl vs qs a)

unfoldable pub new : Float → List Float → List Float → Option Float → Result LinearPk
new cl vs qs a = and_then (unless (passes cl vs qs a) 1 (kernel_of cl vs qs a)) (λ k. unless (matrix_finite k) 2 k)

-- ---- `advance`
-- the amounts x after a duration d at the input rates r, for a slice of `room` cells
unfoldable pub advance : Scheme → LinearPk → List Float → List Float → Float → ℕ → Result (List Float)
advance s k x r d room =
    let n = state_count k in
    and_then (sound k)
    (λ _. and_then (unless (amounts_pass n x && (amounts_pass n r && nonnegative d)) 3 x)
    (λ _. and_then (unless (leb n room) 4 x) (λ _. interval s n k.matrix x r d)))

-- ---- `concentrations`: amount by volume, the depot skipped
unfoldable pub concentrations : LinearPk → List Float → ℕ → Result (List Float)
concentrations k x room =
    and_then (sound k) (λ _. concentrationsOf (state_count k) k.compartments k.depot k.volumes x room)

-- ---- `bind`: initial amounts bound to a kernel
unfoldable pub bind : LinearPk → List Float → Result BoundLinearPk
bind k x = and_then (sound k) (λ k. unless (amounts_pass (state_count k) x) 3 (record { kernel = k; initial = padded states x }))
