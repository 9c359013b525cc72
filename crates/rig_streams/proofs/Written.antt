-- Where a text has room, its bytes stand at the front of the cells that it is printed into.
use Rattle.std.proofs.Common.{◌≡◌, ℕ, ◌≤◌, List, length, take, drop, ap, ◌∙◌, arith}
use Rattle.std.proofs.lemmas.Bool.{le-leb}
use Rattle.printout.specs.Cells.{printed, printed_length}
use lib.Seq.{take-append_seam}

-- of cells for so many bytes, and a text that has no more
pub whole : {room : ℕ} (text old new : List ℕ) (n : ℕ) → length old ≡ room → length text ≤ room → n ≡ printed_length text old → new ≡ printed text old
    → (n ≤ room) × (take n new ≡ text)
whole text old new n same h length_is new_is =
    let fits : length text ≤ length old = omega (arith, h, same) in
    let within : printed_length text old ≡ length text = rw (le-leb (length text) (length old) fits) in (
      omega (arith, h, length_is, within),
      ap (λ (k : ℕ). take k new) length_is ∙ ap (take (printed_length text old)) new_is
          ∙ rw (le-leb (length text) (length old) fits) (take-append_seam text (drop (length text) old)),
    )
