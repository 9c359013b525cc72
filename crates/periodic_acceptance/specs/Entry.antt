-- The library's `periodic_steady_state`: which test refuses first, and what the code replies. 01, "The closed cycle" and "Who brought it on". Definitions only.
use Rattle.std.specs.Prelude.{Bool, ◌&&◌, List, ℕ, leb, length, Float, Ok, Err, Result as Outcome}
use Rattle.limits.specs.Limits.{most_cycle_events, most_samples}
use Rattle.binary64.specs.Doubles.{plus_zero}
use Rattle.refusal.specs.Numbers.{refusal_number}
use Rattle.linear_pk.specs.LinearPk.{sound, state_count}
use Rattle.linear_pk.specs.declared.kernel.LinearPk.{LinearPk}
use Rattle.protocol.specs.declared.Event.{Event}
use Rattle.protocol.specs.declared.Window.{Window}
use Rattle.simulation.specs.KernelRun.{propagator_of}
use Rattle.cycle.specs.declared.SteadyStateTolerance.{SteadyStateTolerance}
use Rattle.cycle.specs.Closed as C
use Rattle.periodic_runs.specs.declared.Stop.{Stop}

-- whether slices of so many cells have one for each state
abbrev pub steady_room : LinearPk → ℕ → ℕ → Bool
steady_room k amounts residual = leb (state_count k) amounts && leb (state_count k) residual

-- 5 for more events or samples than a cycle or a run holds, the kernel's own 1 and 2, then the closed cycle
unfoldable pub steady_entry : LinearPk → Window → List Float → List Event → SteadyStateTolerance → Bool → C.Timed C.SteadyState
steady_entry k w ss es tol room =
    C.then (C.unless_fails (leb (length es) most_cycle_events && leb (length ss) most_samples) 5 k)
    (λ k. C.then (C.untimed (sound k)) (λ k. C.closed (propagator_of k) (state_count k) w ss es tol room))

-- what the code replies, case by case
abbrev pub steady_reply : Outcome Float Stop → C.SteadyReport
steady_reply (Err s) = record { number = refusal_number s.refusal; time = s.time; maximum = plus_zero }
steady_reply (Ok m) = record { number = 0; time = plus_zero; maximum = m }
