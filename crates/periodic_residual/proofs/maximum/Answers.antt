-- `periodic_residual::maximum` meets its contract.
use mathlib.Core.Path.{◌≡◌, refl, sym}
use native.Mathlib.Omega.{arith}
use borrow.Author.Rules.{rules}
use lib.ListN.{length, take, length-append}
use lib.Seq.{length-take-le}
use lib.Ieee.{nan, of_bits}
use Rattle.cycle.specs.Closed.{untimed, checked_maximum_to}
use Rattle.refusal.specs.Numbers.{outcome_of}
use Rattle.std.proofs.lemmas.Result.{err_from_is_err_and}
use Rattle.std.proofs.lemmas.Slice.Zip.{zip_turn, zip_end}
use Rattle.periodic_residual.proofs.States.{maximum_more, maximum-stops}
use Rattle.periodic_residual.proofs.maximum.Goals as goal

pub loop-from-init : goal.loop-from-init
unfolding checked_maximum_to of_bits
loop-from-init c = refl

pub loop-from-preserved : goal.loop-from-preserved
loop-from-preserved c =
    let g = c.args in
    let z = zip_turn (take g.n g.start) (take g.n g.end) c.loop-from.yielded c.into_iter-from-iterator.result c.loop-from.from-iterator c.next.new.self c.next.result
    (search rules) (search rules) c.loop-from.yielded_by _ c.in-Some.is (search rules) in
    simp length-append (maximum_more g.tolerance (take g.n g.start) (take g.n g.end) _ c.loop-from.invariant
    (rw (← z.2 nan, ← z.3 nan) (rw c.in_ok-maximum.was at c.judged.ensures)))

pub returns-in_err-maximum : goal.returns-in_err-maximum
returns-in_err-maximum c =
    let g = c.args in
    let p = err_from_is_err_and c.from_residual.result c.from_residual.ensures.1 in
    let z = zip_turn (take g.n g.start) (take g.n g.end) c.loop-from.yielded c.into_iter-from-iterator.result c.loop-from.from-iterator c.next.new.self c.next.result
    (search rules) (search rules) c.loop-from.yielded_by _ c.in-Some.is (search rules) in
    rw (p.1, p.2)
    (maximum-stops g.tolerance (take g.n g.start) (take g.n g.end) _ c.loop-from.invariant
    {r = untimed (outcome_of c.judged.result)}
    (rw (← z.2 nan, ← z.3 nan) c.judged.ensures)
    (omega (arith, z.0, length-take-le g.n g.start (omega arith)))
    (rw c.in_err-maximum.was))
