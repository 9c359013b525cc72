use mathlib.Core.Path.{◌≡◌, refl, ◌∙◌}
use mathlib.Core.List.{[]}
use borrow.Author.Rules.{rules}
use Prim.Native.Nat.{◌<◌}
use native.Mathlib.Omega.{arith}
use lib.ListN.{length, take, get_or, length-append}
use lib.Seq.{get_or-take}
use lib.Ieee.{of_bits, neg, nan}
use Rattle.std.proofs.Common.{length-take-le}
use Rattle.std.proofs.lemmas.Slice.Zip.{zip_turn, zip_end}
use Rattle.matrix.specs.Matrix.{tabulate, tabulate_from, sum_to}
use Rattle.matrix.specs.Arrays.{row_times}
use Rattle.matrix.proofs.Rows.{times_more}
use Rattle.matrix.proofs.row.times.Goals as goal

pub loop-x-init : goal.loop-x-init
unfolding row_times tabulate tabulate_from sum_to of_bits neg
loop-x-init c = refl

pub loop-x-preserved : goal.loop-x-preserved
loop-x-preserved c =
    let k = length c.loop-x.yielded in
    let rows = take c.args.m c.args.b.now in
    let turn = zip_turn c.args.row.now rows c.loop-x.yielded c.into_iter-x-iterator.result c.loop-x.x-iterator c.next.new.self c.next.result
    (search rules) (search rules) c.loop-x.yielded_by (c.in-Some.x, c.in-Some.line) c.in-Some.is c.next.ensures.steps in
    let long : length rows ≡ c.args.m = length-take-le c.args.m c.args.b.now (omega arith) in
    let below : k < c.args.m = rw long at turn.1 in
    let line : c.in-Some.line.now ≡ get_or c.args.b.now k [] = turn.3 [] ∙ get_or-take c.args.m c.args.b.now k [] below in
    rw length-append (times_more c.args.row.now c.args.b.now k c.loop-x.invariant (rw (← turn.2 nan, ← line) c.plus_scaled-next.ensures))

pub returns : goal.returns
returns c =
    let rows = take c.args.m c.args.b.now in
    let end = zip_end c.args.row.now rows c.loop-x.yielded c.into_iter-x-iterator.result c.loop-x.x-iterator c.next.new.self c.next.result
    (search rules) (search rules) c.loop-x.yielded_by c.in-None.is c.next.ensures.steps in
    let long : length rows ≡ c.args.m = length-take-le c.args.m c.args.b.now (omega arith) in
    let all : length c.loop-x.yielded ≡ c.args.m = omega arith in
    rw all at c.loop-x.invariant
