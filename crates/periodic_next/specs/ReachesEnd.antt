-- A cycle that a plain run goes through: what the code is given. Definitions only.
use Rattle.std.specs.Prelude.{◌≡◌, List, [], ◌≤◌, T, length, Float}
use Rattle.limits.specs.Limits.{most_events}
use Rattle.binary64.specs.Lists.{amounts_pass}
use Rattle.refusal.specs.Result.{done}
use Rattle.linear_pk.specs.LinearPk.{sound, state_count}
use Rattle.linear_pk.specs.declared.kernel.LinearPk.{LinearPk}
use Rattle.protocol.specs.declared.Event.{Event}
use Rattle.protocol.specs.declared.Window.{Window}
use Rattle.protocol.specs.Execute.{State, go, run_of}
use Rattle.protocol.specs.PlainRun.{Prepared}
use Rattle.simulation.specs.KernelRun.{propagator_of}
use Rattle.cycle.specs.Closed.{divided}

-- a kernel and a prepared list, whose run from the amounts a, on the divided budgets and without samples, reaches the end
pub record ReachesEnd (k : LinearPk) (w : Window) (fs : List Event) (a : List Float) : Type 0 where
  pub kernel : sound k ≡ done k
  pub few : length fs ≤ most_events
  pub prepared : Prepared (state_count k) (divided (state_count k) w) [] fs
  pub passes : T (amounts_pass (state_count k) a)
  pub left : State
  pub reaches : run_of (propagator_of k) (state_count k) (divided (state_count k) w) [] fs a ≡ go left
