-- `linear_pk_mammillary::row_finite` meets its contract.
use mathlib.Core.Path.{refl, ◌∙◌}
use Prim.Native.Nat.{ℕ}
use native.Mathlib.Omega.{arith}
use borrow.Author.Rules.{rules}
use lib.Ieee.Scale.{finite}
use Rattle.std.proofs.lemmas.Iterator.{YieldsList-from_range}
use Rattle.std.proofs.lemmas.Iterator.Search.{all_from_yields_List}
use Rattle.linear_pk_propagator.specs.Propagator.{entry}
use Rattle.matrix.proofs.Fronts.{all_range}
use Rattle.linear_pk_mammillary.proofs.row_finite.Goals as goal

pub returns : goal.returns
returns c =
    let p = λ (j : ℕ). finite (entry c.args.matrix c.args.i j) in
    all_from_yields_List p _ _ c.all.result c.all.ensures.ran (YieldsList-from_range 0 c.args.n c.args.n refl (omega arith)) (λ x b q k. search rules)
    ∙ all_range p c.args.n
