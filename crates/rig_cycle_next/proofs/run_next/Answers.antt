-- `rig_cycle_next::run_next` meets its contract.
use mathlib.Core.Path.{◌≡◌, sym, ◌∙◌}
use native.Mathlib.Omega.{arith}
use Prim.Native.Nat.{◌/◌, ◌≤◌}
use lib.ListN.{length, take}
use lib.Seq.{length-take-le}
use Rattle.events_layout.specs.Layout.{event_count}
use Rattle.sheet.specs.Sheet.{words_of}
use Rattle.sheet.proofs.Places.{words-length}
use Rattle.cycle.specs.Closed.{SteadyState}
use Rattle.rig_cycle_next.proofs.Next.{holds, entry_is, run_goes, run_ends}
use Rattle.limits.specs.Limits.{most_cycle_events, most_samples}
use Rattle.rig_cycle_next.proofs.run_next.Goals as goal

pub unwrap-requires : goal.unwrap-requires
unwrap-requires c =
    let g = c.args in
    let s = g.sheet.now in
    let b = s.bodies in
    let ws = words_of b.window.now in
    let ss = words_of b.samples.now in
    let es = words_of b.events.now in
    let few : event_count es ≤ most_cycle_events = omega (arith, b.readable.events, words-length b.events.now) in
    let x = take (length b.samples.now / 8) c.cells-held.result in
    let z = length-take-le (length b.samples.now / 8) c.cells-held.result (omega (arith, b.readable.samples, c.cells-held.ensures)) in
    let m : length x ≡ length ss = z ∙ sym (words-length b.samples.now) in
    let l : length x ≤ most_samples = omega (arith, b.readable.samples, z) in
    let a : SteadyState = record { amounts = g.amounts.now; residuals = g.residual.now; maximum = c.requires.0.maximum } in
    let v = c.as_slice.ensures.value ∙ c.events_of-list.ensures in
    holds _ _ (c.normalize_periodic_cycle.ensures.folded ∙ entry_is s.kernel ws ss es s.sound few a c.requires.0.solved c.doubles.ensures v
    c.window_of-span.ensures m l)

pub simulate_cycle-requires : goal.simulate_cycle-requires
simulate_cycle-requires c =
    let g = c.args in
    let s = g.sheet.now in
    let b = s.bodies in
    let ws = words_of b.window.now in
    let ss = words_of b.samples.now in
    let es = words_of b.events.now in
    let few : event_count es ≤ most_cycle_events = omega (arith, b.readable.events, words-length b.events.now) in
    let x = take (length b.samples.now / 8) c.cells-held.result in
    let z = length-take-le (length b.samples.now / 8) c.cells-held.result (omega (arith, b.readable.samples, c.cells-held.ensures)) in
    let m : length x ≡ length ss = z ∙ sym (words-length b.samples.now) in
    let l : length x ≤ most_samples = omega (arith, b.readable.samples, z) in
    let a : SteadyState = record { amounts = g.amounts.now; residuals = g.residual.now; maximum = c.requires.0.maximum } in
    let v = c.as_slice.ensures.value ∙ c.events_of-list.ensures in
    let p = rw c.unwrap.ensures at c.normalize_periodic_cycle.ensures.folded in (
      rw c.as_slice-2.ensures.value (run_goes s.kernel ws ss es s.sound few a c.requires.0.solved c.doubles.ensures v
          c.window_of-span.ensures m l p),
      c.requires.1,
      c.requires.2,
      c.requires.3,
    )

pub returns-clause-end : goal.returns-clause-end
returns-clause-end c =
    let g = c.args in
    let s = g.sheet.now in
    let b = s.bodies in
    let ws = words_of b.window.now in
    let ss = words_of b.samples.now in
    let es = words_of b.events.now in
    let few : event_count es ≤ most_cycle_events = omega (arith, b.readable.events, words-length b.events.now) in
    let x = take (length b.samples.now / 8) c.cells-held.result in
    let z = length-take-le (length b.samples.now / 8) c.cells-held.result (omega (arith, b.readable.samples, c.cells-held.ensures)) in
    let m : length x ≡ length ss = z ∙ sym (words-length b.samples.now) in
    let l : length x ≤ most_samples = omega (arith, b.readable.samples, z) in
    let a : SteadyState = record { amounts = g.amounts.now; residuals = g.residual.now; maximum = c.requires.0.maximum } in
    let v = c.as_slice.ensures.value ∙ c.events_of-list.ensures in
    let p = rw c.unwrap.ensures at c.normalize_periodic_cycle.ensures.folded in
    let y = c.simulate_cycle.ensures.end in (
      y.0,
      run_ends s.kernel ws ss es s.sound few a c.requires.0.solved c.doubles.ensures v
          c.window_of-span.ensures m l p (rw c.as_slice-2.ensures.value at y.1),
    )
