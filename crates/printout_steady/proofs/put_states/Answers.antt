-- `printout_steady::put_states` meets its contract.
use native.Mathlib.Omega.{arith}
use borrow.Author.Rules.{rules}
use lib.ListN.{length, take, length-append}
use mathlib.Core.Path.{◌≡◌}
use lib.Seq.{take_all, length-take-le}
use lib.Ieee.{nan}
use Rattle.std.proofs.lemmas.Slice.Zip.{zip_turn, zip_end}
use Rattle.printout_numbers.proofs.Writing.{writes_both, writes_none}
use Rattle.printout_steady.specs.SteadyPrintout.{state_lines}
use Rattle.printout_steady.proofs.Lines.{lines_length_lem, lines_more}
use Rattle.printout_steady.proofs.put_states.Goals as goal

pub loop-amount-init : goal.loop-amount-init
unfolding state_lines
loop-amount-init c = writes_none _

pub state_line-requires : goal.state_line-requires
state_line-requires c =
    let s = c.args.solved.now in
    let xs = take s.n s.amounts.now in
    let ys = take s.n s.residual.now in
    let h = length-take-le s.n s.amounts.now s.held in
    let l = length-take-le s.n s.residual.now s.told in
    let k = length c.loop-amount.yielded in
    let z = zip_turn xs ys c.loop-amount.yielded c.into_iter-amount-iterator.result c.loop-amount.amount-iterator c.next.new.self c.next.result
    (search rules) (search rules) c.loop-amount.yielded_by _ c.in-Some.is (search rules) in
    let a : length (take k xs) ≡ k = length-take-le k xs (omega (arith, z.0)) in
    let r : length (take k ys) ≡ k = length-take-le k ys (omega (arith, z.1)) in
    omega (arith, z.0, a, h, lines_length_lem (take k xs) (take k ys) (omega (arith, a, r)), c.loop-amount.invariant.wrote.place, c.loop-amount.invariant.wrote.same)

pub loop-amount-preserved : goal.loop-amount-preserved
loop-amount-preserved c =
    let s = c.args.solved.now in
    let xs = take s.n s.amounts.now in
    let ys = take s.n s.residual.now in
    let k = length c.loop-amount.yielded in
    let z = zip_turn xs ys c.loop-amount.yielded c.into_iter-amount-iterator.result c.loop-amount.amount-iterator c.next.new.self c.next.result
    (search rules) (search rules) c.loop-amount.yielded_by _ c.in-Some.is (search rules) in
    simp length-append
    (rw (lines_more k xs ys z.0 z.1) at (writes_both c.loop-amount.invariant (rw (z.2 nan, z.3 nan) at c.state_line.ensures)))

pub returns : goal.returns
returns c =
    let s = c.args.solved.now in
    let xs = take s.n s.amounts.now in
    let ys = take s.n s.residual.now in
    let h = length-take-le s.n s.amounts.now s.held in
    let l = length-take-le s.n s.residual.now s.told in
    let k = length c.loop-amount.yielded in
    let z = zip_end xs ys c.loop-amount.yielded c.into_iter-amount-iterator.result c.loop-amount.amount-iterator c.next.new.self c.next.result
    (search rules) (search rules) c.loop-amount.yielded_by c.in-None.is (search rules) in
    rw (take_all k xs (omega (arith, z, h, l)), take_all k ys (omega (arith, z, h, l))) at c.loop-amount.invariant
