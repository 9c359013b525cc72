-- The reply of a printout, from how many bytes were written.
use mathlib.Core.Path.{◌≡◌, refl, ap, ◌∙◌, subst}
use mathlib.Core.Bool.{Bool, true, false, cond, not}
use mathlib.Core.List.{List}
use Prim.Native.Nat.{ℕ, ◌≤◌}
use native.Mathlib.Omega.{arith}
use borrow.Author.Tests.{ne_eqb}
use lib.Dec.{eqb, leb}
use lib.ListN.{length}
use lib.Ieee.{Float}
use Rattle.refusal.specs.Numbers.{reply_number}
use Rattle.printout.specs.Printout.{rows_text, refused_text, run_text}
use Rattle.printout.specs.Cells.{printed, printed_length}
use Rattle.printout.specs.Printouts.{Printout, number_or_short}
use Rattle.printout.specs.Replies.{Prints}
use Rattle.printout.specs.declared.PrintReply.{PrintReply}

-- the text of a number that is not 0
pub refusal-text : (c rows n : ℕ) (t sum : Float) (times : List Float) (sides : List ℕ) (values : List Float) → 1 ≤ c
    → run_text c t rows n sum times sides values ≡ refused_text c t
unfolding run_text
refusal-text c rows n t sum times sides values h =
    ap (λ (b : Bool). cond b (rows_text rows n sum times sides values) (refused_text c t)) (ne_eqb c 0 (λ e. omega arith))

-- a text has bytes
pub refusal_some : (c : ℕ) (t : Float) → 1 ≤ length (refused_text c t)
unfolding refused_text
refusal_some c t = omega arith

module _ {p : Printout} {old new text : List ℕ} {r : PrintReply} {length' : ℕ} where
  -- none written is no room
  pub prints : text ≡ p.text → 1 ≤ length p.text → reply_number r.reply ≡ number_or_short p.number (eqb length' 0)
      → r.length ≡ length' → length' ≡ printed_length text old → new ≡ printed text old → Prints p old r new
  prints e some number same written cells = record {
    number =
        number ∙ ap (λ (l : ℕ). number_or_short p.number (eqb l 0)) (written ∙ ap (λ (x : List ℕ). printed_length x old) e)
        ∙ ap (number_or_short p.number) (on (length p.text) (leb (length p.text) (length old)) some);
    length = same ∙ written ∙ ap (λ (x : List ℕ). printed_length x old) e;
    cells = cells ∙ ap (λ (x : List ℕ). printed x old) e;
  }
    where
      on : (l : ℕ) (b : Bool) → 1 ≤ l → eqb (cond b l 0) 0 ≡ not b
      on l true h = ne_eqb l 0 (λ e. omega arith)
      on l false h = refl

pub prints_same : {p q : Printout} {old new : List ℕ} {r : PrintReply} → p ≡ q → Prints p old r new → Prints q old r new
prints_same {p} {q} {old} {new} {r} e h = subst (λ (x : Printout). Prints x old r new) e h
