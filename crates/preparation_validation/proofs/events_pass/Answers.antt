-- `preparation_validation::events_pass` meets its contract.
use mathlib.Core.Path.{refl, ◌∙◌}
use mathlib.Core.List.{reverse}
use Prim.Native.Nat.{ℕ}
use native.Mathlib.Omega.{arith}
use borrow.Author.Rules.{rules}
use lib.Ieee.{nan}
use lib.ListN.{length, take, get_or}
use Rattle.std.proofs.lemmas.Iterator.{YieldsList-from_range}
use Rattle.std.proofs.lemmas.Iterator.Search.{all_from_yields_List}
use Rattle.protocol.specs.Prepare.{event_passes}
use Rattle.protocol.specs.declared.Event.TheVariants.{Bolus}
use Rattle.preparation_validation.proofs.Folds.{passes_over}
use Rattle.preparation_validation.proofs.events_pass.Goals as goal

pub returns : goal.returns
returns c =
    let g = c.args in
    let es = g.events.now in
    let none = Bolus nan 0 nan in
    all_from_yields_List (λ (j : ℕ). event_passes g.n g.window (reverse (take j es)) (get_or es j none)) _ _ c.all.result c.all.ensures.ran
    (YieldsList-from_range 0 (length es) (length es) refl (omega arith)) (λ x b q k. search rules)
    ∙ passes_over g.n g.window es none (length es) 0 (omega arith)
