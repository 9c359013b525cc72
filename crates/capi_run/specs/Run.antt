-- A run for C: its events are laid out as words, six to an event.
use Rattle.std.specs.Prelude.{cond, List, ℕ, Float}
use Rattle.refusal.specs.Result.{Result, refused}
use Rattle.linear_pk.specs.LinearPk.{sound, state_count}
use Rattle.linear_pk.specs.declared.kernel.LinearPk.{LinearPk}
use Rattle.events_layout.specs.Layout.{events_fit, events_of}
use Rattle.protocol.specs.Execute.{Outcome}
use Rattle.protocol.specs.Entry.{Room, simulate}
use Rattle.protocol.specs.declared.Window.{Window}
use Rattle.preparation.specs.Preparation.{own_number}
use Rattle.simulation.specs.KernelRun.{propagator_of}

abbrev pub window_from : Float → Float → Float → Float → ℕ → ℕ → ℕ → Window
window_from start end rtol atol propagations events outputs =
    record { start = start; end = end; rtol = rtol; atol = atol; propagations = propagations; events = events; outputs = outputs }

-- 40 where the words are no events, else the library's run of them
unfoldable pub simulate_words : LinearPk → List Float → Window → List ℕ → List Float → Room → Result Outcome
simulate_words k a w ws ss cells = cond (events_fit ws) (simulate (propagator_of k) (own_number (sound k)) (state_count k) w ss (events_of ws) a cells) (refused 40)
