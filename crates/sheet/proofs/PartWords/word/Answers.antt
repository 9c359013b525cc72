-- `sheet::PartWords::word` meets its contract.
use native.Mathlib.Omega.{arith}
use Rattle.sheet_words.proofs.Bytes.{words-length}
use Rattle.sheet.proofs.PartWords.word.Goals as goal

pub word-requires : goal.word-requires
word-requires c = omega (arith, words-length c.args.self.now.0.now)
