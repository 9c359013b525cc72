-- `rig_run_printout::run_cells` meets its contract.
use mathlib.Core.Path.{refl, subst}
use native.Mathlib.Omega.{arith}
use native.Mathlib.Nat.{mul-le-mul_right}
use Prim.Native.Nat.{ℕ, ◌*◌, ◌≤◌}
use Rattle.refusal.proofs.Numbers.{refusal-number}
use Rattle.linear_pk.specs.LinearPk.{state_count}
use Rattle.sheet.specs.Sheet.{words_of}
use Rattle.sheet.proofs.Places.{words-length}
use Rattle.printout.proofs.Replies.{prints_same}
use Rattle.sheet_events.specs.OrderedDoses.{ordered}
use Rattle.events_layout.specs.Layout.{events_of}
use Rattle.rig_run_sheet.specs.SheetRun.{reckoned_of}
use Rattle.rig_run_sheet.proofs.Words.{reckoned-words}
use Rattle.rig_run_printout.proofs.Runs.{rows-within, refused-printout, reached-printout}
use Rattle.rig_run_printout.proofs.run_cells.Goals as goal

pub invariant_of-rows : goal.invariant_of-rows
invariant_of-rows c =
    let g = c.args in
    let b = g.bodies.now in
    let h = c.requires in
    let n = c.state_count.result in
    let l = rows-within g.kernel (words_of b.window.now) (words_of b.amounts.now) (words_of b.samples.now)
    (words_of b.events.now) (rw c.in-Ok.is at c.simulate_bodies-run.ensures.result_value) in
    let m : c.in-Ok.reached.rows * n ≤ reckoned_of (words_of b.samples.now) (words_of b.events.now) * state_count g.kernel = subst
    (λ (j : ℕ). c.in-Ok.reached.rows * n ≤ reckoned_of (words_of b.samples.now) (words_of b.events.now) * j) c.state_count.ensures.0
    (mul-le-mul_right n l) in
    let a = c.simulate_bodies-run.auto in
    record {
      held = record {
        enough_times = omega (arith, l, a.times, h.2);
        enough_sides = omega (arith, l, a.sides, h.3);
        enough_values = omega (arith, m, a.values, h.4);
      };
    }

pub print_run-requires : goal.print_run-requires
print_run-requires c =
    let g = c.args in
    let b = g.bodies.now in
    let h = b.readable in
    let l = rows-within g.kernel (words_of b.window.now) (words_of b.amounts.now) (words_of b.samples.now)
    (words_of b.events.now) (rw c.in-Ok.is at c.simulate_bodies-run.ensures.result_value) in
    let q = reckoned-words (words_of b.samples.now) (words_of b.events.now) in
    (c.state_count.ensures.1, omega (arith, l, q, words-length b.samples.now, words-length b.events.now, h.samples, h.events))

pub returns-in-Err-Refused : goal.returns-in-Err-Refused
returns-in-Err-Refused c =
    let g = c.args in
    let b = g.bodies.now in
    let e = c.in-Err-Refused in
    let q = rw e.is at e.field-0-is in
    prints_same (refused-printout g.kernel (words_of b.window.now) (words_of b.amounts.now) (words_of b.samples.now) (words_of b.events.now)
    (rw (e.is, q) at c.simulate_bodies-run.ensures.result_value) (ordered (events_of (words_of b.events.now))) (refusal-number e.refusal))
    c.print_refusal.ensures

pub returns-in-Err-Stopped : goal.returns-in-Err-Stopped
returns-in-Err-Stopped c =
    let g = c.args in
    let b = g.bodies.now in
    let e = c.in-Err-Stopped in
    let q = rw e.is at e.field-0-is in
    prints_same (refused-printout g.kernel (words_of b.window.now) (words_of b.amounts.now) (words_of b.samples.now) (words_of b.events.now)
    (rw (e.is, q) at c.simulate_bodies-run.ensures.result_value) (ordered (events_of (words_of b.events.now))) (refusal-number e.refusal))
    c.print_refused.ensures

pub returns-in-Ok : goal.returns-in-Ok
returns-in-Ok c =
    let g = c.args in
    let b = g.bodies.now in
    let run = c.simulate_bodies-run.ensures in
    let es = words_of b.events.now in
    prints_same (reached-printout g.kernel (words_of b.window.now) (words_of b.amounts.now) (words_of b.samples.now) es
    (rw c.in-Ok.is at run.result_value) g.times.now g.sides.now g.values.now
    refl c.state_count.ensures.0 c.ordered.ensures run.times_after run.sides_after run.values_after)
    c.print_run.ensures
