-- `printout_cycle::PrintedCycle::write` meets its contract.
use native.Mathlib.Omega.{arith}
use borrow.Author.Rules.{rules}
use Rattle.printout_numbers.proofs.Writing.{writes_both}
use Rattle.printout_cycle.proofs.Lengths.{front_lines}
use Rattle.printout_cycle.proofs.Lines.{verdict_length}
use Rattle.printout_cycle.proofs.PrintedCycle.write.Goals as goal

pub put_lines-requires : goal.put_lines-requires
put_lines-requires c = omega arith

pub put_verdict-requires : goal.put_verdict-requires
put_verdict-requires c =
    let s = c.args.self.now in
    omega (arith, front_lines s.tolerance s.n s.starts.now s.ends.now s.held s.ended, verdict_length c.args.closed)

pub returns : goal.returns
returns c =
    let w = writes_both c.put_lines.ensures c.put_verdict.ensures in
    let lent = w.lent in
    let wrote = w.wrote in
    search rules
