-- `sheet::PartWords::count` meets its contract.
use mathlib.Core.Path.{sym}
use Rattle.sheet_words.proofs.Bytes.{words-length}
use Rattle.sheet.proofs.PartWords.count.Goals as goal

pub returns : goal.returns
returns c = sym (words-length c.args.self.now.0.now)
