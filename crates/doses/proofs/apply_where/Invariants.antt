-- `doses::apply_where` meets its contract. The invariant: the events that are left give the whole answer.
use mathlib.Core.Path.{◌≡◌}
use mathlib.Core.Bool.{Bool}
use lib.ListN.{drop}
use Rattle.std.specs.Fn.{FnReturnsAt}
use Rattle.protocol.specs.declared.Event.{Event}
use Rattle.doses.proofs.Chains.{Leads, passing}
use Rattle.doses.proofs.apply_where.Given as goal

abbrev pub invariant-loop-event : goal.invariant-loop-event
invariant-loop-event g l =
    (passes : Event → Bool) → ((e : Event) (b : Bool) → FnReturnsAt g.F.Fn l.test e b → b ≡ passes e)
    → Leads l.at.n l.initial.p (passing l.at.t passes l.events) l.p (passing l.at.t passes (drop l.event-index l.events))
