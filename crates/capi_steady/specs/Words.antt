-- The closed cycle of events that are laid out as words, six to an event: what the C interface replies. Definitions only.
use Rattle.std.specs.Prelude.{Bool, List, ℕ, Float}
use Rattle.linear_pk.specs.declared.kernel.LinearPk.{LinearPk}
use Rattle.events_layout.specs.Layout.{events_fit, events_of}
use Rattle.protocol.specs.declared.Window.{Window}
use Rattle.cycle.specs.declared.SteadyStateTolerance.{SteadyStateTolerance}
use Rattle.cycle.specs.Closed.{Timed, then, unless_fails, SteadyState}
use Rattle.periodic_acceptance.specs.Entry.{steady_entry}

-- 40 where the words are no events, else the library's closed cycle of them
unfoldable pub steady_words : LinearPk → Window → List Float → List ℕ → SteadyStateTolerance → Bool → Timed SteadyState
unfolding steady_entry
steady_words k w ss ws tol room = then (unless_fails (events_fit ws) 40 ws) (λ ws. steady_entry k w ss (events_of ws) tol room)
