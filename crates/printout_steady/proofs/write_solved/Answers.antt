-- `printout_steady::write_solved` meets its contract.
use native.Mathlib.Omega.{arith}
use borrow.Author.Rules.{rules}
use Rattle.printout_numbers.proofs.Writing.{writes_both}
use Rattle.printout_steady.specs.SteadyPrintout.{solved_text, max_line}
use Rattle.printout_steady.proofs.Lines.{front_lines}
use Rattle.printout_steady.proofs.write_solved.Goals as goal

pub put_named-requires : goal.put_named-requires
put_named-requires c =
    let s = c.args.solved.now in
    omega (arith, front_lines s.n s.amounts.now s.residual.now s.held s.told)

pub returns : goal.returns
unfolding solved_text max_line
returns c =
    let w = writes_both c.put_states.ensures c.put_named.ensures in
    let lent = w.lent in
    let wrote = w.wrote in
    search rules
