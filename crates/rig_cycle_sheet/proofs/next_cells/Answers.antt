-- `rig_cycle_sheet::next_cells` meets its contract.
use mathlib.Core.Path.{◌≡◌, refl}
use native.Mathlib.Omega.{arith}
use Rattle.linear_pk.specs.LinearPk.{state_count}
use Rattle.sheet.specs.Sheet.{words_of}
use Rattle.rig_steady_cycle.specs.SheetCycle.{steady_read}
use Rattle.rig_steady_cycle.proofs.Kept.{steady_kept}
use Rattle.printout.proofs.Replies.{prints_same}
use Rattle.rig_cycle_sheet.proofs.Refusals.{refused-printout, next-stops, answer-refused, answer-solved}
use Rattle.refusal.specs.Numbers.{refusal_number}
use Rattle.refusal.specs.declared.Refusal.{Refusal}
use Rattle.refusal.proofs.Numbers.{refusal-number}
use Rattle.rig_cycle_sheet.proofs.next_cells.Goals as goal

-- a refusal's number is not 0
no-zero : (r : Refusal) → refusal_number r ≡ 0 → ⊥
no-zero r e = omega (arith, e, refusal-number r)

pub next_solved-requires : goal.next_solved-requires
next_solved-requires c =
    let s = c.args.sheet.now in
    let b = s.bodies in
    let k = steady_kept s.kernel (words_of b.window.now) (words_of b.samples.now) (words_of b.events.now) s.sound in
    let v = answer-solved (state_count s.kernel) (steady_read s) k (rw c.in-Ok.is at c.solve_bodies-solved.ensures) refl c.requires.0 c.requires.1 in
    (v, c.requires.2, c.requires.3, c.requires.4)

pub returns-in-Err : goal.returns-in-Err
returns-in-Err c =
    let s = c.args.sheet.now in
    let b = s.bodies in
    let k = steady_kept s.kernel (words_of b.window.now) (words_of b.samples.now) (words_of b.events.now) s.sound in
    let h = (λ (z : refusal_number c.in-Err.stop.refusal ≡ 0). no-zero c.in-Err.stop.refusal z) in
    let q = answer-refused (state_count s.kernel) (steady_read s) k (rw c.in-Err.is at c.solve_bodies-solved.ensures) h in
    prints_same (refused-printout (next-stops s.kernel (words_of b.window.now) (words_of b.samples.now) (words_of b.events.now) q)) c.print_refused.ensures
