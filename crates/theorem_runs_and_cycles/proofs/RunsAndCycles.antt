-- Demand 3, whole: `runs_and_cycles`. Assumes nothing.
use Rattle.theorem_runs_and_cycles.proofs.Demand3.{demand_3}
use Rattle.theorem_runs_and_cycles.proofs.Simulate.{every_simulate}
use Rattle.theorem_runs_and_cycles.proofs.PeriodicSteadyState.{every_steady_state}
use Rattle.theorem_runs_and_cycles.specs.RunsAndCycles.{RunsAndCycles}
use Rattle.theorem_runs_and_cycles.proofs.Printed.{every_printout}

pub runs_and_cycles : RunsAndCycles
runs_and_cycles = record {
  plain_run = demand_3.plain_run;
  closed-cycle = demand_3.closed-cycle;
  samples_apart = demand_3.samples_apart;
  simulate = every_simulate;
  periodic_steady_state = every_steady_state;
  printout = every_printout;
}
