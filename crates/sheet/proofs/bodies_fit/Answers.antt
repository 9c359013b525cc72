-- `sheet::bodies_fit` meets its contract.
use mathlib.Core.Path.{sym, ap, ap₂, ◌∙◌}
use mathlib.Core.Bool.{◌&&◌}
use lib.Dec.{eqb}
use Rattle.events_layout.specs.Layout.{events_fit}
use native.Mathlib.Omega.{arith}
use Prim.Native.Nat.{ℕ, ◌≤◌}
use lib.ListN.{length}
use Rattle.sheet.specs.Sheet.{words_of, model_fits}
use Rattle.sheet.proofs.Places.{words-length, body_at, body-length}
use Rattle.sheet.proofs.bodies_fit.Goals as goal

pub body-requires : goal.body-requires
body-requires c =
    let p = c.requires in (
      omega (arith, p.model.1, p.window.1, p.amounts.1, p.samples.1, p.events.1, p.whole, words-length c.args.bytes.now),
      omega (arith, p.model.1, p.window.1, p.amounts.1, p.samples.1, p.events.1, p.whole, words-length c.args.bytes.now),
    )

pub body-requires-2 : goal.body-requires-2
body-requires-2 c =
    let p = c.requires in (
      omega (arith, p.model.1, p.window.1, p.amounts.1, p.samples.1, p.events.1, p.whole, words-length c.args.bytes.now),
      omega (arith, p.model.1, p.window.1, p.amounts.1, p.samples.1, p.events.1, p.whole, words-length c.args.bytes.now),
    )

pub overflow_sub-result : goal.overflow_sub-result
overflow_sub-result c =
    let p = c.requires in
    omega (arith, p.model.1, p.window.1, p.amounts.1, p.samples.1, p.events.1, p.whole, words-length c.args.bytes.now)

pub returns : goal.returns
returns c =
    let p = c.requires in
    let g = c.args.places in
    let ws = words_of c.args.bytes.now in
    let l : g.amounts ≤ length ws = omega (arith, p.amounts.1, p.samples.1, p.events.1, p.whole) in
    ap₂ ◌&&◌
    (c.model_fits-model.ensures ∙ ap model_fits (c.body.ensures.words ∙ body_at ws g.model g.window 0 p.model.0 p.model.1))
    (ap₂ ◌&&◌ (ap (λ (n : ℕ). eqb n 9) (sym (body-length ws g.window g.amounts 1 p.window.0 p.window.1 l)))
    (c.events_fit-events.ensures
    ∙ ap events_fit (c.body-2.ensures.words ∙ body_at ws g.events g.end 4 p.events.0 p.events.1)))
