-- `events_layout::events_fit` meets its contract.
use mathlib.Core.Path.{refl, ◌∙◌}
use Prim.Native.Nat.{◌/◌}
use native.Mathlib.Omega.{arith}
use borrow.Author.Rules.{rules}
use Rattle.std.proofs.lemmas.Iterator.{YieldsList-from_range}
use Rattle.std.proofs.lemmas.Iterator.Search.{all_from_yields_List}
use Rattle.matrix.proofs.Fronts.{all_range}
use Rattle.events_layout.specs.Layout.{event_fits, events_fit}
use Rattle.events_layout.proofs.events_fit.Goals as goal

pub returns : goal.returns
unfolding events_fit
returns g c =
    let p = event_fits (g.W.Words.words c.args.words) in
    let n = c.count-total.result / 6 in
    let all = all_from_yields_List p _ _ c.all.result c.all.ensures.ran (YieldsList-from_range 0 n n refl (omega arith)) (λ x b q k. search rules)
    ∙ all_range p n in
    rw (← c.count-total.ensures, all)
