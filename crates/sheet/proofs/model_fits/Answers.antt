-- `sheet::model_fits` meets its contract.
use borrow.Author.Tests.{lt-leb, le-leb}
use Prim.Native.Nat.{◌/◌}
use lib.ListN.{length}
use Rattle.sheet.specs.Model.{model_fits}
use Rattle.sheet_words.proofs.Bytes.{words-length}
use Rattle.sheet.proofs.Volumes.{by_one_more}
use Rattle.sheet.proofs.model_fits.Goals as goal

pub returns-then-count-lt4 : goal.returns-then-count-lt4
unfolding model_fits
returns-then-count-lt4 c = rw (words-length, lt-leb _ _ c.if-count-lt4.true)

pub returns : goal.returns
unfolding model_fits
returns c =
    rw (
      words-length,
      ← c.word-depot.ensures,
      ← c.word-volumes.ensures,
      le-leb _ _ c.if-count-lt4.false,
      by_one_more c.word-volumes.result (length c.args.part.now / 8),
    )
