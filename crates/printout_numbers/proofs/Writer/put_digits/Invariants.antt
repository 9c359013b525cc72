-- `printout_numbers::Writer::put_digits` meets its contract. The invariant: the digits that are left, written where they belong, give the whole.
use mathlib.Core.Path.{◌≡◌}
use lib.ListN.{length}
use lib.Seq.{sets}
use Rattle.printout_numbers.specs.Digits.{digits}
use Rattle.printout_numbers.proofs.Writer.put_digits.Given as goal

abbrev pub invariant-loop-i : goal.invariant-loop-i
invariant-loop-i l = record {
  at : l.self.at ≡ l.fn.self.at;
  lent : l.self.out.ghost_name ≡ l.fn.self.out.ghost_name;
  same : length l.self.out.now ≡ length l.fn.self.out.now;
  cells : sets l.self.out.now l.self.at (digits l.base l.i l.left) ≡ sets l.fn.self.out.now l.fn.self.at (digits l.base l.count l.word);
}
