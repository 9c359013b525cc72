-- The printout over the slices is that of the closed cycle.
use mathlib.Core.Path.{◌≡◌, refl, ap}
use mathlib.Core.List.{List}
use Prim.Native.Nat.{ℕ}
use native.Mathlib.Omega.{arith}
use borrow.Author.Tests.{ne_eqb}
use lib.Seq.{take_at}
use lib.Ieee.{Float}
use Rattle.cycle.specs.Closed.{Timed, stopped, got, SteadyState, SteadyReport, steady_report_of, answer_at_exit}
use Rattle.printout_steady.specs.SteadyPrintout.{steady_text, steady_result}
use Rattle.printout_steady.specs.SteadyReplies.{steady_printout, steady_printout_of}
use Rattle.periodic_acceptance.specs.Replies.{SteadyAnswer}
use Rattle.rig_steady_cycle.proofs.Kept.{Kept}

kept_text : (n : ℕ) (o : Timed SteadyState) → Kept n o → (old old' : List Float)
    → steady_result (steady_report_of o).number (steady_report_of o).time n (steady_report_of o).maximum
    (answer_at_exit (λ (s : SteadyState). s.amounts) o old) (answer_at_exit (λ (s : SteadyState). s.residuals) o old') ≡ o
kept_text n (stopped c t) h old old' = rw (ne_eqb c 0 (λ e. omega arith))
kept_text n (got s) h old old' = rw (take_at s.amounts _ n h.amounts, take_at s.residuals _ n h.residuals) refl

pub answer-printout : (n : ℕ) (o : Timed SteadyState) → Kept n o → {r : SteadyReport} {a a' b b' : List Float} → SteadyAnswer o r a b a' b' → {m : ℕ}
    → m ≡ n → steady_printout_of r m a' b' ≡ steady_printout o
answer-printout n o h {r} {a} {a'} {b} {b'} t {m} e =
    rw (e, t.reply, t.amounts, t.residuals) (ap (λ (x : Timed SteadyState). record { number = (steady_report_of o).number; text = steady_text x })
    (kept_text n o h a b))
