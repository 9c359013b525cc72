-- `events_at::instants::has_event` meets its contract.
use mathlib.Core.Path.{◌∙◌}
use borrow.Author.Rules.{rules}
use borrow.Author.Tests.{tests}
use Rattle.std.proofs.lemmas.Iterator.{YieldsList-from_slice}
use Rattle.std.proofs.lemmas.Iterator.Search.{any_from_yields_List}
use Rattle.events_at.specs.At.{happens}
use Rattle.events_at.proofs.Happening.{has_event_any}
use Rattle.events_at.proofs.instants.has_event.Goals as goal

pub returns : goal.returns
returns c =
    any_from_yields_List (happens c.args.t) _ _ c.any.result c.any.ensures.ran (YieldsList-from_slice c.args.events.now cc)
    (λ x b q k. search (rules, tests))
    ∙ has_event_any c.args.t c.args.events.now
