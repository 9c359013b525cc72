-- `printout_numbers::Writer::put_digits` meets its contract.
use mathlib.Core.Path.{◌∙◌}
use native.Mathlib.Omega.{arith}
use lib.ListN.{length-set}
use Rattle.printout_numbers.proofs.Writing.{digits-length, digits_step, digits-done}
use Rattle.printout_numbers.proofs.Writer.put_digits.Goals as goal

pub loop-i-preserved : goal.loop-i-preserved
loop-i-preserved c =
    let g = c.args in
    let l = c.loop-i in
    record {
      at = l.invariant.at;
      lent = l.invariant.lent;
      same = length-set l.self.out.now _ _ ∙ l.invariant.same;
      cells = digits_step l.self.out.now l.self.at g.base l.i l.left c.digit.result c.loop-i-test.true c.digit.ensures ∙ l.invariant.cells;
    }

pub returns : goal.returns
returns c =
    let g = c.args in
    let l = c.loop-i in
    record {
      lent = l.invariant.lent;
      wrote = record {
        place = omega (arith, l.invariant.at, digits-length g.base g.count g.word);
        cells = digits-done l.self.out.now l.self.at g.base l.i l.left c.loop-i-test.false l.invariant.cells;
        same = l.invariant.same;
      };
    }
