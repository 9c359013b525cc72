-- `fold_stop::has_stop` meets its contract.
use borrow.Author.Rules.{rules}
use borrow.Author.Tests.{tests}
use Rattle.std.proofs.lemmas.Iterator.{YieldsList-from_slice}
use Rattle.std.proofs.lemmas.Iterator.Search.{any_from_yields_List}
use Rattle.cycle.specs.Fold.{stopping}
use Rattle.fold_stop.proofs.has_stop.Goals as goal

pub returns : goal.returns
returns c =
    any_from_yields_List (stopping c.args.target) _ _ c.any.result c.any.ensures.ran (YieldsList-from_slice c.args.events.now cc)
    (λ x b q k. search (rules, tests))
