-- The printout of a refusal, and what a reply tells of a closed cycle.
use mathlib.Core.Path.{◌≡◌, refl, sym, ap, ◌∙◌}
use mathlib.Core.List.{List, ◌++◌, append-nil}
use Prim.Native.Nat.{ℕ, ◌≤◌}
use native.Mathlib.Omega.{arith}
use lib.ListN.{length, drop}
use lib.Seq.{drop-length}
use lib.Ieee.{Float}
use Rattle.linear_pk.specs.declared.kernel.LinearPk.{LinearPk}
use Rattle.cycle.specs.Closed.{Timed, stopped, got, SteadyState, SteadyReport, steady_report_of, answer_at_exit}
use Rattle.printout.specs.Replies.{refused_at}
use Rattle.rig_steady_cycle.specs.SheetCycle.{steady_with}
use Rattle.periodic_acceptance.specs.Replies.{SteadyAnswer}
use Rattle.rig_steady_cycle.proofs.Kept.{Kept}
use Rattle.printout_cycle.specs.CyclePrintout.{NextCycle, cycle_text}
use Rattle.rig_cycle_next.specs.NextRun.{next_with}
use Rattle.rig_cycle_next.specs.Solves.{Solves}
use Rattle.rig_cycle_next.specs.NextPrintout.{cycle_printout}

-- ---- a refusal
pub refused-printout : {o : Timed NextCycle} {c : ℕ} {t : Float} → o ≡ stopped c t → refused_at c t ≡ cycle_printout o
unfolding cycle_text
refused-printout e = sym (ap cycle_printout e)

pub next-stops : (k : LinearPk) (w ss es : List ℕ) {c : ℕ} {t : Float} → steady_with k w ss es ≡ stopped c t → next_with k w ss es ≡ stopped c t
unfolding next_with
next-stops k w ss es q = rw q

-- ---- what a reply tells of a closed cycle of n states
module _ (n : ℕ) (o : Timed SteadyState) (kept : Kept n o) {r : SteadyReport} {a a' b b' : List Float} (answer : SteadyAnswer o r a b a' b') where
  pub answer-refused : (r.number ≡ 0 → ⊥) → o ≡ stopped r.number r.time
  answer-refused h = on o answer.reply
    where
      on : (o : Timed SteadyState) → r ≡ steady_report_of o → o ≡ stopped r.number r.time
      on (stopped c t) e = rw e
      on (got s) e = absurd (h (ap (λ (x : SteadyReport). x.number) e))

  pub answer-solved : r.number ≡ 0 → length a ≡ n → length b ≡ n → Solves o a' b'
  answer-solved h l m = on o kept answer.reply answer.amounts answer.residuals
    where
      front : (xs old : List Float) → length xs ≡ n → length old ≡ n → xs ++ drop (length xs) old ≡ xs
      front xs old p q = rw (p ∙ sym q, drop-length old, append-nil xs)

      on : (o : Timed SteadyState) → Kept n o → r ≡ steady_report_of o → a' ≡ answer_at_exit (λ (s : SteadyState). s.amounts) o a
          → b' ≡ answer_at_exit (λ (s : SteadyState). s.residuals) o b → Solves o a' b'
      on (stopped c t) k e x y = absurd (no (ap (λ (z : SteadyReport). z.number) (sym e) ∙ h) k)
        where
          no : {c : ℕ} → c ≡ 0 → 1 ≤ c → ⊥
          no p q = omega arith
      on (got s) k e x y = record {
        maximum = s.maximum;
        solved = rw (
          x ∙ front s.amounts a k.amounts l,
          y
              ∙ front s.residuals b k.residuals m,
        ) refl;
      }
