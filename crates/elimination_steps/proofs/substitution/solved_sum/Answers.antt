use mathlib.Core.Path.{refl, ◌∙◌}
use borrow.Author.Rules.{rules}
use Prim.Native.Nat.{◌+◌, ◌-◌, ◌<◌}
use native.Mathlib.Omega.{arith}
use mathlib.Core.List.{[]}
use lib.ListN.{length, take, drop, get_or, length-append}
use lib.Ieee.{of_bits, neg, nan}
use Rattle.std.proofs.lemmas.Slice.Zip.{zip_turn}
use Rattle.matrix.specs.Matrix.{sum_to}
use Rattle.cycle.specs.Elimination.{solved_sum}
use Rattle.elimination_steps.proofs.Substitutions.{part-at, part-length, sum_more}
use Rattle.elimination_steps.proofs.substitution.solved_sum.Goals as goal

pub loop-entry-init : goal.loop-entry-init
unfolding solved_sum sum_to of_bits neg
loop-entry-init c = refl

pub loop-entry-preserved : goal.loop-entry-preserved
loop-entry-preserved c =
    let k = length c.loop-entry.yielded in
    let i = c.args.i in
    let n = c.args.system.now.n in
    let row = get_or c.args.system.now.matrix i [] in
    let turn = zip_turn (take (n - (i + 1)) (drop (i + 1) row)) (take (n - (i + 1)) (drop (i + 1) c.args.x.now)) c.loop-entry.yielded
    c.into_iter-entry-iterator.result c.loop-entry.entry-iterator c.next.new.self c.next.result (search rules) (search rules)
    c.loop-entry.yielded_by (c.in-Some.field-0-0, c.in-Some.field-0-1) c.in-Some.is c.next.ensures.steps in
    let long = part-length n i c.args.x.now (omega arith) in
    let below : k < n - (i + 1) = rw long at turn.1 in
    rw length-append (sum_more c.args.system.now.matrix c.args.x.now i k c.loop-entry.invariant (turn.2 nan ∙ part-at n i k row below) (turn.3 nan ∙ part-at n i k c.args.x.now below))
