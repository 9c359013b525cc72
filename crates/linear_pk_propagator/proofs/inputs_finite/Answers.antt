-- `linear_pk_propagator::inputs_finite` meets its contract.
use mathlib.Core.Path.{refl, sym, ap, ◌∙◌}
use native.Mathlib.Nat.{le_refl}
use borrow.Author.Rules.{rules}
use lib.ListN.{length}
use lib.Seq.{take-length}
use lib.Ieee.{nan, binary64, mul}
use lib.Ieee.Scale.{finite}
use Rattle.std.proofs.lemmas.Iterator.{YieldsList-from_slice}
use Rattle.std.proofs.lemmas.Iterator.Search.{all_from_yields_List}
use Rattle.binary64.specs.Lists.{all}
use Rattle.matrix.specs.Matrix.{cell}
use Rattle.matrix.proofs.Fronts.{all_front}
use Rattle.linear_pk_propagator.proofs.inputs_finite.Goals as goal

pub returns : goal.returns
returns c =
    let p = λ (x : _). finite (mul binary64 x c.args.duration) in
    let r = c.args.rates.now in
    all_from_yields_List p _ _ c.all.result c.all.ensures.ran (YieldsList-from_slice r cc) (λ x b q k. search rules)
    ∙ ap (all p) (sym (take-length r)) ∙ all_front p (λ j. p (cell r j)) (length r) r nan (le_refl (length r)) (λ i l. refl)
