-- Demand 3: `demand_3`. Assumes nothing.
use Rattle.linear_pk.specs.LinearPk.{state_count}
use Rattle.protocol.proofs.Theorems.{samples_apart}
use Rattle.simulation.specs.KernelRun.{propagator_of, refusal_of}
use Rattle.simulation.proofs.KernelRuns.{kernel_laws, kernel-run}
use Rattle.cycle.proofs.Theorems.{closed-cycle}
use Rattle.theorem_runs_and_cycles.specs.Demand3.{Demand3}

pub demand_3 : Demand3
demand_3 = record {
  plain_run = kernel-run;
  closed-cycle = λ k made. closed-cycle (state_count k) (propagator_of k) (refusal_of k) (kernel_laws k made);
  samples_apart = samples_apart;
}
