-- What a call leaves in its output, from the entry's contract and the theorem's field about the printout.
use mathlib.Core.Path.{◌≡◌, refl, sym, ap₂, ◌∙◌, subst}
use Prim.Native.Nat.{ℕ, ◌≤◌, ◌<◌}
use native.Mathlib.Omega.{arith}
use mathlib.Core.Bool.{Bool, true, false}
use mathlib.Core.List.{List, ◌++◌}
use borrow.Author.Tests.{leb-false}
use lib.Dec.{leb, eqb}
use lib.ListN.{length, take, drop, length-append}
use lib.Seq.{take-append_seam, drop-append_seam}
use Rattle.cycle.specs.Closed.{Timed, stopped, got, SteadyState}
use Rattle.printout.specs.Cells.{printed, printed_length}
use Rattle.printout.specs.Printouts.{Printout, number_into}
use Rattle.printout.proofs.Replies.{refusal_some}
use Rattle.printout_steady.specs.SteadyPrintout.{state_lines, max_line, solved_text, steady_text}
use Rattle.printout_steady.proofs.Lines.{max_length}
use Rattle.rig_steady_sheet.specs.SteadySheet.{steady_of_bytes, steady_printout_of_bytes, most_steady_bytes}
use Rattle.rig_steady_sheet.proofs.Most.{every_steady_printout_fits}
use Rattle.theorem_runs_and_cycles.specs.Printed.{Printed}
use Rattle.theorem_runs_and_cycles.proofs.RunsAndCycles.{runs_and_cycles}
use Rattle.theorem_calls.specs.Shown.{Shown}

text_some : (o : Timed SteadyState) → 0 < length (steady_text o)
unfolding steady_text solved_text
text_some (stopped m t) = refusal_some m t
text_some (got x) = omega (arith, length-append (state_lines x.amounts x.residuals) (max_line x.maximum), max_length x.maximum)

pub shown : (bs old : List ℕ) (number size : ℕ) (new : List ℕ) → number ≡ number_into old (steady_printout_of_bytes bs)
    → size ≡ printed_length (steady_printout_of_bytes bs).text old
    → new ≡ printed (steady_printout_of_bytes bs).text old → Shown bs old number size new
shown bs old number size new told counted cells = on (leb (length text) (length old)) refl
  where
    p : Printout
    p = steady_printout_of_bytes bs

    text : List ℕ
    text = p.text

    fits : length text ≤ most_steady_bytes
    fits = every_steady_printout_fits bs

    -- with room the number is the printout's own
    own : leb (length text) (length old) ≡ true → (b : Bool) → eqb p.number 0 ≡ b → number_into old p ≡ p.number
    own e true z = simp (e, z)
    own e false z = simp (e, z)

    on : (b : Bool) → leb (length text) (length old) ≡ b → Shown bs old number size new
    on true e =
        let m : number ≡ p.number = told ∙ own e (eqb p.number 0) refl in
        let q : size ≡ length text = rw e at counted in
        let w : new ≡ text ++ drop (length text) old = rw e at cells in
        record {
          room = λ _. rw q (text_some (steady_of_bytes bs));
          printed =
              λ _. subst (Printed bs) (ap₂ (λ (i : ℕ) (t : List ℕ). record { number = i; text = t }) (sym m)
              (sym (ap₂ take q w ∙ take-append_seam text (drop (length text) old)))) (runs_and_cycles.printout bs);
          behind = rw (q, w) (drop-append_seam text (drop (length text) old));
        }
    on false e =
        let q : size ≡ 0 = rw e at counted in
        let w : new ≡ old = rw e at cells in
        record {
          room = λ l. absurd (short (length text) (length old) fits l (leb-false (length text) (length old) e));
          printed = λ l. absurd (none l q);
          behind = rw (q, w) refl;
        }
      where
        short : (i j : ℕ) → i ≤ most_steady_bytes → most_steady_bytes ≤ j → j < i → ⊥
        short i j a b c = omega arith

        none : {i : ℕ} → 0 < i → i ≡ 0 → ⊥
        none a b = omega arith
