-- 01, "The sheet and its printout": the closed cycle of a kernel and the other bodies of a sheet. Definitions only.
use Rattle.std.specs.Prelude.{true, List, ℕ}
use Rattle.linear_pk.specs.LinearPk.{state_count}
use Rattle.linear_pk.specs.declared.kernel.LinearPk.{LinearPk}
use Rattle.simulation.specs.KernelRun.{propagator_of}
use Rattle.cycle.specs.Closed.{Timed, SteadyState, closed}
use Rattle.events_layout.specs.Layout.{events_of}
use Rattle.sheet_kernel.specs.Values.{sheet_window}
use Rattle.rig_run_sheet.specs.SheetRun.{doubles_of}
use Rattle.sheet_kernel.specs.CycleTolerance.{tolerance_of}
use Rattle.sheet.specs.Sheet.{words_of}
use Rattle.sheet_kernel.specs.declared.bodies.ReadSheet.{ReadSheet}

-- the closed cycle of a kernel and the words of window, samples and events, into slices with room
unfoldable pub steady_with : LinearPk → List ℕ → List ℕ → List ℕ → Timed SteadyState
steady_with k w ss es = closed (propagator_of k) (state_count k) (sheet_window w) (doubles_of ss) (events_of es) (tolerance_of w) true

-- of what is read
abbrev pub steady_read : ReadSheet → Timed SteadyState
steady_read r = steady_with r.kernel (words_of r.bodies.window.now) (words_of r.bodies.samples.now) (words_of r.bodies.events.now)
