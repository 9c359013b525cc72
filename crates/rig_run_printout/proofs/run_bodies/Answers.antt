-- `rig_run_printout::run_bodies` meets its contract.
use mathlib.Core.Path.{◌≡◌, sym, ap₂, ◌∙◌}
use native.Mathlib.Omega.{arith}
use Prim.Native.Nat.{◌+◌, ◌*◌, ◌/◌, ◌≤◌}
use lib.ListN.{length}
use lib.Seq.{length-take-le}
use Rattle.limits.specs.Limits.{event_bytes, sheet_rows}
use Rattle.sheet.specs.Sheet.{words_of}
use Rattle.sheet.proofs.Places.{words-length}
use Rattle.rig_run_sheet.specs.SheetRun.{reckoned_of}
use Rattle.rig_run_sheet.proofs.Amounts.{cells-most, known_five}
use Rattle.rig_run_sheet.proofs.Words.{reckoned-words}
use Rattle.rig_run_printout.proofs.run_bodies.Goals as goal

pub overflow_mul-held : goal.overflow_mul-held
overflow_mul-held c =
    let h = c.args.bodies.now.readable in
    omega (
      arith,
      cells-most (4 * (length c.args.bodies.now.events.now / event_bytes) + length c.args.bodies.now.samples.now / 8 + 2)
          c.state_count.result (omega (arith, h.samples, h.events)) c.state_count.ensures.1,
    )

pub slice_bounds-initial-end : goal.slice_bounds-initial-end
slice_bounds-initial-end c = omega (arith, known_five (length c.args.bodies.now.amounts.now / 8), c.known-first.ensures)

pub slice_bounds-run_cells-end : goal.slice_bounds-run_cells-end
slice_bounds-run_cells-end c = sym (length-take-le _ _ (omega (arith, known_five (length c.args.bodies.now.amounts.now / 8), c.known-first.ensures)))

pub slice_bounds-run_cells-end-2 : goal.slice_bounds-run_cells-end-2
slice_bounds-run_cells-end-2 c = sym (length-take-le _ _ (omega (arith, c.args.bodies.now.readable.samples, c.cells-readings.ensures)))

pub slice_bounds-run_cells-end-3 : goal.slice_bounds-run_cells-end-3
slice_bounds-run_cells-end-3 c = sym (length-take-le _ _ (omega (arith, c.args.bodies.now.readable.samples, c.args.bodies.now.readable.events, c.cells-times.ensures)))

pub slice_bounds-run_cells-end-4 : goal.slice_bounds-run_cells-end-4
slice_bounds-run_cells-end-4 c = sym (length-take-le _ _ (omega (arith, c.args.bodies.now.readable.samples, c.args.bodies.now.readable.events, c.cells-sides.ensures)))

pub slice_bounds-values-end : goal.slice_bounds-values-end
slice_bounds-values-end c =
    let h = c.args.bodies.now.readable in
    omega (
      arith,
      cells-most (4 * (length c.args.bodies.now.events.now / event_bytes) + length c.args.bodies.now.samples.now / 8 + 2)
          c.state_count.result (omega (arith, h.samples, h.events)) c.state_count.ensures.1,
    )

pub slice_bounds-run_cells-end-5 : goal.slice_bounds-run_cells-end-5
slice_bounds-run_cells-end-5 c =
    let h = c.args.bodies.now.readable in
    let m = cells-most (4 * (length c.args.bodies.now.events.now / event_bytes) + length c.args.bodies.now.samples.now / 8 + 2)
    c.state_count.result (omega (arith, h.samples, h.events)) c.state_count.ensures.1 in
    sym (length-take-le _ _ (omega (arith, m, c.cells-values.ensures)))

pub run_cells-requires : goal.run_cells-requires
run_cells-requires c =
    let h = c.args.bodies.now.readable in
    let ss = c.args.bodies.now.samples.now in
    let es = c.args.bodies.now.events.now in
    let n = c.state_count in
    let rows = 4 * (length es / event_bytes) + length ss / 8 + 2 in
    let few : rows ≤ sheet_rows = omega (arith, h.samples, h.events) in
    let same : rows ≡ reckoned_of (words_of ss) (words_of es) = omega (arith, words-length ss, words-length es, reckoned-words (words_of ss) (words_of es)) in (
      length-take-le _ _ (omega (arith, known_five (length c.args.bodies.now.amounts.now / 8), c.known-first.ensures)) ∙ c.known-first.ensures,
      length-take-le _ _ (omega (arith, h.samples, c.cells-readings.ensures)),
      length-take-le _ _ (omega (arith, few, c.cells-times.ensures)) ∙ same,
      length-take-le _ _ (omega (arith, few, c.cells-sides.ensures)) ∙ same,
      length-take-le _ _ (omega (arith, cells-most rows n.result few n.ensures.1, c.cells-values.ensures)) ∙ ap₂ ◌*◌ same n.ensures.0,
    )
