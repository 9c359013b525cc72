-- `rig_cycle_next::next_solved` meets its contract.
use native.Mathlib.Omega.{arith}
use Rattle.linear_pk.specs.LinearPk.{state_count}
use Rattle.sheet.specs.Sheet.{words_of}
use Rattle.sheet_kernel.specs.CycleTolerance.{tolerance_of}
use Rattle.printout.proofs.Replies.{prints_same}
use Rattle.rig_cycle_next.proofs.Next.{solves_sized}
use Rattle.rig_cycle_next.proofs.Printing.{part_within, next-printout}
use Rattle.rig_cycle_next.proofs.next_solved.Goals as goal

pub invariant_of-cycle : goal.invariant_of-cycle
invariant_of-cycle c =
    let s = c.args.sheet.now in
    let b = s.bodies in
    let z = solves_sized s.kernel (words_of b.window.now) (words_of b.samples.now) (words_of b.events.now) s.sound c.requires.0 in
    let q = c.state_count.ensures in
    let p = part_within c.run_next-from.result c.state_count.result (state_count s.kernel) c.run_next-from.new.rows.values.now q.0 c.run_next-from.ensures.end.0 in
    record { held = omega (arith, z.0, q.0); ended = p }

pub print-requires : goal.print-requires
print-requires c =
    let s = c.args.sheet.now in
    let b = s.bodies in
    let z = solves_sized s.kernel (words_of b.window.now) (words_of b.samples.now) (words_of b.events.now) s.sound c.requires.0 in
    let q = c.state_count.ensures in
    (omega (arith, z.1, q.0), q.1)

pub returns : goal.returns
returns c =
    let g = c.args in
    let s = g.sheet.now in
    let b = s.bodies in
    let z = solves_sized s.kernel (words_of b.window.now) (words_of b.samples.now) (words_of b.events.now) s.sound c.requires.0 in
    prints_same (next-printout (tolerance_of (words_of s.bodies.window.now)) (state_count s.kernel) g.amounts.now g.residual.now _
    c.run_next-from.result c.run_next-from.ensures.end.1 c.tolerance_of.ensures c.state_count.ensures.0 z.0 z.1) c.print.ensures
