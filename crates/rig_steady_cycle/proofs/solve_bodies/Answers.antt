-- `rig_steady_cycle::solve_bodies` meets its contract.
use mathlib.Core.Path.{sym, ◌∙◌}
use Prim.Native.Nat.{◌/◌}
use native.Mathlib.Omega.{arith}
use lib.ListN.{length}
use lib.Seq.{length-take-le}
use Rattle.sheet.specs.Sheet.{words_of}
use Rattle.sheet.proofs.Places.{words-length}
use Rattle.rig_steady_cycle.proofs.Entry.{entry-answer}
use Rattle.rig_steady_cycle.proofs.solve_bodies.Goals as goal

pub returns : goal.returns
returns c =
    let g = c.args in
    let s = g.sheet.now in
    let b = s.bodies in
    let m = length-take-le (length b.samples.now / 8) c.cells-held.result (omega (arith, b.readable.samples, c.cells-held.ensures)) in
    entry-answer s.kernel (words_of b.window.now) (words_of b.samples.now) (words_of b.events.now) g.amounts.now g.residual.now s.sound
    c.doubles.ensures (c.as_slice.ensures.value ∙ c.events_of-list.ensures) c.window_of-span.ensures c.tolerance_of-tolerance.ensures
    (omega (arith, b.readable.events, words-length b.events.now)) (m ∙ sym (words-length b.samples.now))
    (omega (arith, b.readable.samples, m)) c.requires.0 c.requires.1 c.periodic_steady_state.ensures.result_value c.periodic_steady_state.ensures.amounts_after c.periodic_steady_state.ensures.residual_after
