-- `printout_numbers::Writer::put_text` meets its contract.
use mathlib.Core.Path.{refl}
use native.Mathlib.Omega.{arith}
use Rattle.printout_numbers.proofs.Writing.{wrote_part}
use Rattle.printout_numbers.proofs.Writer.put_text.Goals as goal

pub returns : goal.returns
returns c = record { lent = refl; wrote = wrote_part c.args.self.now.at _ c.args.text.now c.args.self.now.out.now _ c.requires (omega arith) c.copy_from_slice.ensures.after }
