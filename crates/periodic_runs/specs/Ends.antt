-- The inner runs of a closed cycle: what each asks, and what the code's Result stands for. Definitions only.
use Rattle.std.specs.Prelude.{◌≡◌, List, [], ℕ, ◌≤◌, length, Ok, Err, Result as Outcome}
use Rattle.std.proofs.Math.Option.{none}
use Rattle.limits.specs.Limits.{states, most_events}
use Rattle.refusal.specs.Numbers.{refusal_number}
use Rattle.linear_pk.specs.LinearPk.{state_count}
use Rattle.linear_pk.specs.declared.kernel.LinearPk.{LinearPk}
use Rattle.protocol.specs.Prepare.{prepare}
use Rattle.protocol.specs.declared.Event.{Event}
use Rattle.protocol.specs.declared.Window.{Window}
use Rattle.cycle.specs.Closed.{Timed, stopped, got, divided}
use Rattle.periodic_runs.specs.declared.Stop.{Stop}

-- a kernel of n states, and a list that the preparation passes on the divided budgets
pub record Runs (k : LinearPk) (n : ℕ) (w : Window) (es : List Event) : Type 0 where
  pub count : n ≡ state_count k
  pub states : n ≤ states
  pub few : length es ≤ most_events
  pub passes : prepare n (divided n w) [] es ≡ none

-- the part f of the value, or the number and the time of a stop
abbrev pub timed_with : {A B : Type 0} → (A → B) → Outcome A Stop → Timed B
timed_with f (Ok a) = got (f a)
timed_with f (Err s) = stopped (refusal_number s.refusal) s.time
