-- The whole text over the front of the cells.
use mathlib.Core.Path.{◌≡◌, ap, ◌∙◌}
use mathlib.Core.List.{List, ◌++◌}
use Prim.Native.Nat.{ℕ, ◌≤◌, ◌<◌}
use native.Mathlib.Nat.{zero-add}
use borrow.Author.Tests.{le-leb, lt-leb}
use lib.ListN.{length, drop}
use lib.Seq.{sets-eq}
use Rattle.printout.specs.Cells.{Wrote, printed, printed_length}

-- how many bytes are written, and the cells then
abbrev pub Printed : List ℕ → List ℕ → ℕ → List ℕ → Type 0
Printed text old r new = (r ≡ printed_length text old) × (new ≡ printed text old)

pub no_room : (text old : List ℕ) → length old < length text → Printed text old 0 old
no_room text old h = (rw (lt-leb (length text) (length old) h), rw (lt-leb (length text) (length old) h))

pub with_room : (text old : List ℕ) {r : ℕ} {new : List ℕ} → length text ≤ length old → Wrote text 0 old r new → Printed text old r new
with_room text old h w = (
  rw (le-leb (length text) (length old) h) (w.place ∙ zero-add (length text)),
  rw (le-leb (length text) (length old) h) (w.cells ∙ sets-eq text old 0 (rw (zero-add (length text)) h)
      ∙ ap (λ (k : ℕ). text ++ drop k old) (zero-add (length text))),
)
