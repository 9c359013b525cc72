-- Demand 3 of a call, from the entry's contract, the call's times and the fields of the one theorem.
use mathlib.Core.Path.{◌≡◌}
use Rattle.cycle.specs.ClosedCycle.{TimesFit}
use Rattle.simulation_report.specs.Replies.{RunReply}
use Rattle.theorem_runs_and_cycles.specs.PeriodicSteadyState.{SteadyReply}
use Rattle.simulation.specs.Entries.{run_reply}
use Rattle.theorem_runs_and_cycles.specs.Simulate as S
use Rattle.theorem_runs_and_cycles.specs.PeriodicSteadyState as P
use Rattle.theorem_runs_and_cycles.proofs.RunsAndCycles.{runs_and_cycles}
use Rattle.theorem_calls.specs.Claims.{Simulated, Steady}

pub simulated : {c : S.Call} {r : RunReply} {exit : S.Slices} → S.Contract c r exit → S.TimesFit c → Simulated c r exit
simulated {c} {r} {exit} q f = record { replied = runs_and_cycles.simulate.replied c r exit q f; passed = runs_and_cycles.simulate.passed c r exit q }

pub steady : {c : P.Call} {r : SteadyReply} {exit : P.Slices} → P.Contract c r exit → TimesFit c.window c.events → Steady c r exit
steady {c} {r} {exit} q f = record { replied = runs_and_cycles.periodic_steady_state.replied c r exit q f; unchanged = runs_and_cycles.periodic_steady_state.unchanged c r exit q }

pub same_rows : {c c' : S.Call} (r r' : RunReply) {exit exit' : S.Slices} → S.Contract c r exit → S.Contract c' r' exit' → S.TimesFit c
    → S.TimesFit c' → S.Apart c c'
    → (run_reply r).number ≡ 0 → (run_reply r').number ≡ 0 → S.SameRows c c' exit exit'
same_rows {c} {c'} r r' {exit} {exit'} = runs_and_cycles.simulate.same_rows c c' r r' exit exit'
