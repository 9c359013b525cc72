-- `sheet_words::next` meets its contract.
use mathlib.Core.Path.{sym, ap, ◌∙◌}
use mathlib.Core.Bool.{Bool, ◌&&◌}
use native.Mathlib.Omega.{arith}
use Prim.Native.Nat.{◌+◌, ◌/◌}
use lib.Dec.{eqb}
use lib.ListN.{length}
use Rattle.sheet_words.specs.Places.{next_of}
use Rattle.sheet_words.proofs.Bytes.{words-length}
use Rattle.sheet_words.proofs.Ends.{and_le, room-left}
use Rattle.sheet_words.proofs.next.Goals as goal

pub returns-then-first-at : goal.returns-then-first-at
unfolding next_of
returns-then-first-at c =
    let e = (sym (ap (λ (b : Bool). eqb c.word-first.result c.args.at && b)
    (room-left c.args.at c.word-count.result (length c.args.bytes.now / 8) c.requires.2)) ∙ c.if-first-at.true) in (
      rw (words-length, ← c.word-first.ensures, ← c.word-count.ensures, e),
      omega (
        arith,
        and_le (eqb c.word-first.result c.args.at) (c.args.at + c.word-count.result)
            (length c.args.bytes.now / 8) e,
      ),
    )

pub returns-else-first-at : goal.returns-else-first-at
unfolding next_of
returns-else-first-at c = (
  rw (
    words-length,
    ← c.word-first.ensures,
    ← c.word-count.ensures,
    (sym (ap (λ (b : Bool). eqb c.word-first.result c.args.at && b)
        (room-left c.args.at c.word-count.result (length c.args.bytes.now / 8)
        c.requires.2)) ∙ c.if-first-at.false),
  ),
  omega arith,
)
