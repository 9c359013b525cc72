-- Demand 3 as one claim, at the kernel and 01's scheme: plain runs, closed cycles, and runs that differ in samples, tolerances and budgets
-- alone. A claim, no proof.
use Rattle.std.specs.Prelude.{◌≡◌, List, Float}
use Rattle.refusal.specs.Result.{done}
use Rattle.linear_pk.specs.LinearPk.{sound, state_count}
use Rattle.linear_pk.specs.declared.kernel.LinearPk.{LinearPk}
use Rattle.protocol.specs.SamplesApart.{EverySamplesApart}
use Rattle.protocol.specs.declared.Event.{Event}
use Rattle.protocol.specs.declared.Window.{Window}
use Rattle.simulation.specs.KernelRun.{propagator_of, EveryKernelRun}
use Rattle.cycle.specs.declared.SteadyStateTolerance.{SteadyStateTolerance}
use Rattle.cycle.specs.ClosedCycle.{TimesFit, ClosedCycle}

-- the closed cycles of every kernel that passes its own test
abbrev pub EveryKernelCycle : Type 0
EveryKernelCycle =
    (k : LinearPk)
    → sound k ≡ done k
    → (w : Window) (ss : List Float) (es : List Event) (tol : SteadyStateTolerance)
    → TimesFit w es
    → ClosedCycle (propagator_of k) (state_count k) w ss es tol

pub record Demand3 : Type 0 where
  pub plain_run : EveryKernelRun
  pub closed-cycle : EveryKernelCycle
  -- over every propagator, so at the kernel's
  pub samples_apart : EverySamplesApart
