-- The printout of one more cycle.
use mathlib.Core.Path.{◌≡◌}
use mathlib.Core.Bool.{Bool, true, false, cond}
use mathlib.Core.List.{List}
use Prim.Native.Nat.{ℕ, ◌+◌, ◌-◌, ◌≤◌}
use native.Mathlib.Omega.{arith}
use lib.ListN.{length, take, drop, length-append, length-drop}
use lib.Seq.{take_all}
use lib.Ieee.{Float}
use Rattle.cycle.specs.declared.SteadyStateTolerance.{SteadyStateTolerance}
use Rattle.cycle.specs.Closed.{Timed, stopped, got}
use Rattle.printout.specs.Replies.{answer}
use Rattle.printout.proofs.Replies.{refusal_some}
use Rattle.printout_cycle.specs.CyclePrintout.{NextCycle, cycle_lines, closes, verdict_line, lines_text, cycle_text}
use Rattle.printout_cycle.proofs.Lines.{verdict_length}
use Rattle.rig_cycle_next.specs.NextPrintout.{cycle_printout}

-- a text has bytes
pub text_some : (o : Timed NextCycle) → 1 ≤ length (cycle_text o)
unfolding cycle_text lines_text
text_some (stopped c t) = refusal_some c t
text_some (got x) =
    let b = closes x.tolerance x.starts x.ends x.residuals in
    omega (arith, length-append (cycle_lines x.tolerance x.starts x.ends) (verdict_line b), verdict_length b, seven b)
  where
    seven : (b : Bool) → 7 ≤ cond b 7 11
    seven true = omega arith
    seven false = omega arith

-- the values from a place on
rest : (from : ℕ) (values : List Float) → take (length values - from) (drop from values) ≡ drop from values
rest from values = take_all (length values - from) (drop from values) (omega (arith, length-drop from values))

-- n of them
pub part_within : (from m n : ℕ) (values : List Float) → m ≡ n → from + n ≤ length values → m ≤ length (take (length values - from) (drop from values))
part_within from m n values e h = rw (rest from values) (omega (arith, e, h, length-drop from values))

-- ---- one more cycle, of n states, whose end stands in the values
module _ (tol : SteadyStateTolerance) (n : ℕ) (starts residuals values : List Float) (from : ℕ) where
  abbrev ending : NextCycle
  ending = record { tolerance = tol; starts = starts; ends = take n (drop from values); residuals = residuals }

  pub next-printout : {o : Timed NextCycle} → o ≡ got ending → {tol' : SteadyStateTolerance} {m : ℕ} → tol' ≡ tol → m ≡ n
      → length starts ≡ n → length residuals ≡ n
      → answer (lines_text (record {
        tolerance = tol';
        starts = take m starts;
        ends = take m (take (length values - from) (drop from values));
        residuals = take m residuals;
      })) ≡ cycle_printout o
  unfolding cycle_text
  next-printout e t d s r = rw (t, d, e, rest from values, take_all n starts (omega (arith, s)), take_all n residuals (omega (arith, r)))
