-- `printout_cycle::PrintedCycle::put_lines` meets its contract.
use native.Mathlib.Omega.{arith}
use borrow.Author.Rules.{rules}
use lib.ListN.{length, take, length-append}
use mathlib.Core.Path.{◌≡◌}
use lib.Seq.{take_all, length-take-le}
use lib.Ieee.{nan}
use Rattle.std.proofs.lemmas.Slice.Zip.{zip_turn, zip_end}
use Rattle.printout_numbers.proofs.Writing.{writes_both, writes_none}
use Rattle.printout_cycle.specs.Lines.{cycle_lines}
use Rattle.printout_cycle.proofs.Lengths.{lines_length_lem, lines_more}
use Rattle.printout_cycle.proofs.PrintedCycle.put_lines.Goals as goal

pub loop-start-init : goal.loop-start-init
unfolding cycle_lines
loop-start-init c = writes_none _

pub cycle_line-requires : goal.cycle_line-requires
cycle_line-requires c =
    let g = c.args.self.now in
    let xs = take g.n g.starts.now in
    let ys = take g.n g.ends.now in
    let h = length-take-le g.n g.starts.now g.held in
    let l = length-take-le g.n g.ends.now g.ended in
    let k = length c.loop-start.yielded in
    let z = zip_turn xs ys c.loop-start.yielded c.into_iter-start-iterator.result c.loop-start.start-iterator c.next.new.self c.next.result
    (search rules) (search rules) c.loop-start.yielded_by _ c.in-Some.is (search rules) in
    let a : length (take k xs) ≡ k = length-take-le k xs (omega (arith, z.0)) in
    let r : length (take k ys) ≡ k = length-take-le k ys (omega (arith, z.1)) in
    omega (arith, z.0, a, h, lines_length_lem g.tolerance (take k xs) (take k ys) (omega (arith, a, r)), c.loop-start.invariant.wrote.place, c.loop-start.invariant.wrote.same)

pub loop-start-preserved : goal.loop-start-preserved
loop-start-preserved c =
    let g = c.args.self.now in
    let xs = take g.n g.starts.now in
    let ys = take g.n g.ends.now in
    let k = length c.loop-start.yielded in
    let z = zip_turn xs ys c.loop-start.yielded c.into_iter-start-iterator.result c.loop-start.start-iterator c.next.new.self c.next.result
    (search rules) (search rules) c.loop-start.yielded_by _ c.in-Some.is (search rules) in
    simp length-append
    (rw (lines_more g.tolerance k xs ys z.0 z.1) at (writes_both c.loop-start.invariant (rw (z.2 nan, z.3 nan) at c.cycle_line.ensures)))

pub returns : goal.returns
returns c =
    let g = c.args.self.now in
    let xs = take g.n g.starts.now in
    let ys = take g.n g.ends.now in
    let h = length-take-le g.n g.starts.now g.held in
    let l = length-take-le g.n g.ends.now g.ended in
    let k = length c.loop-start.yielded in
    let z = zip_end xs ys c.loop-start.yielded c.into_iter-start-iterator.result c.loop-start.start-iterator c.next.new.self c.next.result
    (search rules) (search rules) c.loop-start.yielded_by c.in-None.is (search rules) in
    rw (take_all k xs (omega (arith, z, h, l)), take_all k ys (omega (arith, z, h, l))) at c.loop-start.invariant
