-- One more cycle from the amounts of a closed one. Definitions only.
use Rattle.std.specs.Prelude.{List, ℕ}
use Rattle.linear_pk.specs.LinearPk.{state_count}
use Rattle.linear_pk.specs.declared.kernel.LinearPk.{LinearPk}
use Rattle.simulation.specs.KernelRun.{propagator_of}
use Rattle.events_layout.specs.Layout.{events_of}
use Rattle.sheet_kernel.specs.Values.{sheet_window}
use Rattle.cycle.specs.Fold.{fold}
use Rattle.cycle.specs.Closed.{Timed, got, then, untimed, last_of}
use Rattle.rig_run_sheet.specs.SheetRun.{doubles_of}
use Rattle.sheet_kernel.specs.CycleTolerance.{tolerance_of}
use Rattle.rig_steady_cycle.specs.SheetCycle.{steady_with}
use Rattle.printout_cycle.specs.CyclePrintout.{NextCycle}
use Rattle.sheet.specs.Sheet.{words_of}
use Rattle.sheet_kernel.specs.declared.bodies.ReadSheet.{ReadSheet}

-- the closed cycle; then the run of its folded list from the amounts, on the divided budgets: the amounts of its last post row
unfoldable pub next_with : LinearPk → List ℕ → List ℕ → List ℕ → Timed NextCycle
next_with k w ss es =
    then (steady_with k w ss es)
    (λ s. then (untimed (fold (state_count k) (sheet_window w) (doubles_of ss) (events_of es)))
    (λ fs. then (last_of (propagator_of k) (state_count k) (sheet_window w) fs s.amounts)
    (λ e. got (record { tolerance = tolerance_of w; starts = s.amounts; ends = e; residuals = s.residuals }))))

-- of what is read
abbrev pub next_read : ReadSheet → Timed NextCycle
next_read r = next_with r.kernel (words_of r.bodies.window.now) (words_of r.bodies.samples.now) (words_of r.bodies.events.now)
