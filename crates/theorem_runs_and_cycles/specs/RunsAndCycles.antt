-- Demand 3, whole: of 01's definitions at the kernel, of what the library's entries reply and leave, and of what `rig-steady` prints. A claim, no proof.
use Rattle.std.specs.Prelude.{List, ℕ}
use Rattle.protocol.specs.SamplesApart.{EverySamplesApart}
use Rattle.simulation.specs.KernelRun.{EveryKernelRun}
use Rattle.theorem_runs_and_cycles.specs.Demand3.{EveryKernelCycle}
use Rattle.theorem_runs_and_cycles.specs.Simulate.{EverySimulate}
use Rattle.theorem_runs_and_cycles.specs.PeriodicSteadyState.{EverySteadyState}
use Rattle.rig_steady_sheet.specs.SteadySheet.{steady_printout_of_bytes}
use Rattle.theorem_runs_and_cycles.specs.Printed.{Printed}

pub record RunsAndCycles : Type 0 where
  -- a plain run over every list that is passed: its rows and advances, and the exact condition of each number and time by which it stops
  pub plain_run : EveryKernelRun
  -- a closed cycle: an answer exactly when the candidate is accepted, and then the candidate with the residuals of its own run
  pub closed-cycle : EveryKernelCycle
  -- two runs that differ in samples, tolerances and budgets alone: the same boundary rows, and the same amounts in readings at equal times
  pub samples_apart : EverySamplesApart
  -- the first and the third, of what `simulate` replies and leaves in the lent slices
  pub simulate : EverySimulate
  -- the second, of what `periodic_steady_state` replies and leaves
  pub periodic_steady_state : EverySteadyState
  -- the second, of what `rig-steady` prints for every byte string
  pub printout : (bs : List ℕ) → Printed bs (steady_printout_of_bytes bs)
