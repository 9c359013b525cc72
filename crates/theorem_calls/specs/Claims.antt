-- Demand 3 of a call of the library's entries: nothing is given but what a caller can see. Claims, no proof.
use Rattle.std.specs.Prelude.{◌≡◌, ◌<◌, Float}
use Rattle.protocol.specs.declared.Window.{Window}
use Rattle.simulation_report.specs.Replies.{RunReply}
use Rattle.simulation.specs.Entries.{run_reply}
use Rattle.theorem_runs_and_cycles.specs.PeriodicSteadyState.{SteadyReply}
use Rattle.periodic_acceptance.specs.Entry.{steady_reply}
use Rattle.theorem_runs_and_cycles.specs.Simulate as S
use Rattle.theorem_runs_and_cycles.specs.PeriodicSteadyState as P
use Rattle.theorem_calls.specs.declared.Settings.{Settings}

-- of a call of `simulate`, with its reply r and the slices at exit
pub record Simulated (c : S.Call) (r : RunReply) (exit : S.Slices) : Type 0 where
  -- where no test ahead of the run refuses
  pub replied : S.Passed c → S.Replied c r exit
  -- a reply of 0 says that none refused
  pub passed : (run_reply r).number ≡ 0 → S.Passed c

-- of a call of `periodic_steady_state`
pub record Steady (c : P.Call) (r : SteadyReply) (exit : P.Slices) : Type 0 where
  -- within the limits, of a kernel that passes its own test, with room for the answer
  pub replied : P.Passed c → P.Replied c r exit
  -- at every number above 0 the slices are as they were
  pub unchanged : 0 < (steady_reply r).number → P.AtRefusal c r exit (steady_reply r).number (steady_reply r).time

-- the window from start to end
abbrev pub window_between : Float → Float → Settings → Window
window_between start end s =
    record { start = start; end = end; rtol = s.rtol; atol = s.atol; propagations = s.propagations; events = s.events; outputs = s.outputs }
