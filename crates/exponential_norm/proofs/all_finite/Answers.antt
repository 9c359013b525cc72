-- `exponential_norm::all_finite` meets its contract.
use mathlib.Core.Path.{refl, ◌∙◌}
use mathlib.Core.List.{List, []}
use native.Mathlib.Omega.{arith}
use borrow.Author.Rules.{rules}
use lib.ListN.{take}
use lib.Ieee.{Float}
use lib.Ieee.Scale.{finite}
use Rattle.std.proofs.lemmas.Iterator.{YieldsList-from_slice}
use Rattle.std.proofs.lemmas.Iterator.Search.{all_from_yields_List}
use Rattle.matrix.specs.Matrix.{cell, at, all_to}
use Rattle.matrix.specs.Exponential.{all_finite}
use Rattle.matrix.proofs.Fronts.{all_front}
use Rattle.exponential_norm.proofs.all_finite.Goals as goal

pub returns : goal.returns
unfolding all_finite
returns g c =
    let p = λ (row : List Float). all_to (λ j. finite (cell row j)) c.args.m in
    all_from_yields_List p _ _ c.all.result c.all.ensures.ran (YieldsList-from_slice (take c.args.m c.args.a.now) c.iter.ensures.rest) (λ x b q k. search rules)
    ∙ all_front p (λ i. all_to (λ j. finite (at c.args.a.now i j)) c.args.m) c.args.m c.args.a.now [] (omega arith) (λ i l. refl)
