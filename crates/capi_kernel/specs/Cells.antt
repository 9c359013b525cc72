-- A new kernel and a bound kernel as cells. How a kernel is laid out is in `capi_kernel_cells/specs/Reading.antt` and `capi_kernel_cells/specs/Writing.antt`.
use Rattle.std.specs.Prelude.{List, ℕ, leb, Float, Option}
use Rattle.limits.specs.Limits.{kernel_cells, bound_cells}
use Rattle.refusal.specs.Result.{Result, and_then, unless}
use Rattle.matrix.specs.Matrix.{tabulate}
use Rattle.linear_pk.specs.LinearPk.{new, bind}
use Rattle.linear_pk.specs.declared.kernel.LinearPk.{LinearPk}
pub use Rattle.capi_kernel_cells.specs.Reading.{absorption_of}
unfoldable pub use Rattle.capi_kernel_cells.specs.Reading.{kernel_at}
unfoldable pub use Rattle.capi_kernel_cells.specs.Writing.{kernel_cell, bound_cell}

-- `new` and `bind` into a slice of `room` cells: 4 last
unfoldable pub new_cells : Float → List Float → List Float → Option Float → ℕ → Result (List Float)
new_cells cl vs qs a room = and_then (new cl vs qs a) (λ k. unless (leb kernel_cells room) 4 (tabulate kernel_cells (kernel_cell k)))

unfoldable pub bind_cells : LinearPk → List Float → ℕ → Result (List Float)
bind_cells k x room = and_then (bind k x) (λ b. unless (leb bound_cells room) 4 (tabulate bound_cells (bound_cell b)))
