-- `sheet_words::head_fits` meets its contract.
use mathlib.Core.Path.{◌≡◌, refl}
use mathlib.Core.Bool.{Bool, true, false, ◌&&◌}
use mathlib.Core.List.{[], ◌∷◌}
use borrow.Author.Tests.{lt-leb, le-leb}
use Rattle.sheet_words.specs.Words.{words_of}
use Rattle.sheet_words.specs.Head.{words_fit, placed}
use Rattle.sheet_words.proofs.Bytes.{words-length}
use Rattle.sheet_words.proofs.Ends.{ends-follow}
use Rattle.sheet_words.proofs.head_fits.Goals as goal

pub returns-then-total-lt-HEAD : goal.returns-then-total-lt-HEAD
unfolding placed
returns-then-total-lt-HEAD c =
    rw (words-length, lt-leb _ _ c.if-total-lt-HEAD.true) (on (words_fit c.args.bytes.now))
  where
    on : (b : Bool) → false ≡ b && false
    on true = refl
    on false = refl

pub returns : goal.returns
unfolding placed
returns c =
    rw (
      ends-follow (words_of c.args.bytes.now) 11 (0 ∷ 1 ∷ 2 ∷ 3 ∷ 4 ∷ []),
      words-length,
      le-leb _ _ c.if-total-lt-HEAD.false,
      ← c.word.ensures,
      c.places_of-places.ensures,
    )
