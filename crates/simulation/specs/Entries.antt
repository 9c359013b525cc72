-- `simulate` of the library: which test refuses first.
use Rattle.std.specs.Prelude.{List, Float}
use Rattle.refusal.specs.Result.{Result}
use Rattle.linear_pk.specs.LinearPk.{sound, state_count}
use Rattle.linear_pk.specs.declared.kernel.LinearPk.{LinearPk}
use Rattle.protocol.specs.Execute.{Outcome}
use Rattle.protocol.specs.Entry.{Room, simulate}
use Rattle.protocol.specs.declared.Event.{Event}
use Rattle.protocol.specs.declared.Window.{Window}
use Rattle.preparation.specs.Preparation.{own_number}
use Rattle.simulation.specs.KernelRun.{propagator_of}
pub use Rattle.simulation_report.specs.Replies.{room, run_reply, reported}

-- the library's run of the kernel
unfoldable pub simulate_entry : LinearPk → List Float → Window → List Event → List Float → Room → Result Outcome
simulate_entry k a w es ss cells = simulate (propagator_of k) (own_number (sound k)) (state_count k) w ss es a cells
