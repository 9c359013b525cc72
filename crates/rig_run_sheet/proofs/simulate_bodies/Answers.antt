-- `rig_run_sheet::simulate_bodies` meets its contract.
use mathlib.Core.Path.{sym, ap, ◌∙◌}
use native.Mathlib.Omega.{arith}
use Prim.Native.Nat.{ℕ, ◌/◌}
use mathlib.Core.Bool.{cond}
use lib.Dec.{leb}
use lib.ListN.{length}
use Rattle.limits.specs.Limits.{read_amounts}
use Rattle.sheet.specs.Sheet.{words_of}
use Rattle.sheet.proofs.Places.{words-length}
use Rattle.rig_run_sheet.proofs.Amounts.{entry_answers, known_most, few-states}
use Rattle.rig_run_sheet.proofs.simulate_bodies.Goals as goal

pub doubles-requires : goal.doubles-requires
doubles-requires c = omega (arith, known_most (length c.args.amounts.now / 8), c.requires.2)

pub returns : goal.returns
returns c =
    let g = c.args in
    let h = c.requires in
    let a = words-length g.amounts.now in
    let w = entry_answers g.kernel (words_of g.window.now) (words_of g.amounts.now) (words_of g.samples.now) (words_of g.events.now)
    (few-states g.kernel) g.times.now g.sides.now g.values.now c.simulate.result
    c.doubles.ensures c.doubles-2.ensures (c.as_slice.ensures.value ∙ c.events_of-list.ensures) c.window_of-span.ensures
    (omega (arith, h.1, words-length g.events.now)) (h.2 ∙ ap (λ (j : ℕ). cond (leb j read_amounts) j read_amounts) (sym a)) (h.3 ∙ sym (words-length g.samples.now))
    h.4 h.5 h.6 c.simulate.ensures.result_value c.simulate.ensures.times_after c.simulate.ensures.sides_after c.simulate.ensures.values_after in
    record { result_value = w.0; times_after = w.1.0; sides_after = w.1.1.0; values_after = w.1.1.1 }
