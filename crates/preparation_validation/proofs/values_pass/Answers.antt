-- `preparation_validation::values_pass` meets its contract.
use mathlib.Core.Path.{◌≡◌, ◌∙◌}
use borrow.Author.Rules.{rules}
use borrow.Author.Tests.{tests}
use mathlib.Core.List.{reverse}
use Rattle.std.proofs.lemmas.Iterator.{YieldsList-from_slice}
use Rattle.std.proofs.lemmas.Iterator.Search.{any_from_yields_List}
use Rattle.binary64.specs.Lists.{any}
use Rattle.preparation_validation.specs.Seen.{repeated}
use Rattle.preparation_validation.proofs.Folds.{any_turned}
use Rattle.preparation_validation.proofs.values_pass.Goals as goal

pub returns-in-Reset : goal.returns-in-Reset
returns-in-Reset c =
    let e : c.any.result ≡ any (repeated c.args.event.now) (reverse c.args.seen.now) =
    any_from_yields_List (repeated c.args.event.now) _ _ c.any.result c.any.ensures.ran (YieldsList-from_slice c.args.seen.now cc)
    (λ x b q k. search (rules, tests))
    ∙ any_turned (repeated c.args.event.now) c.args.seen.now in
    rw (c.in-Reset.is, c.is_finite-in-Reset.ensures, rw c.in-Reset.is at e)
