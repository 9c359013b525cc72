-- The most bytes of a printout.
use mathlib.Core.Path.{◌≡◌, refl, sym, subst}
use Prim.Native.Nat.{ℕ, ◌≤◌}
use native.Mathlib.Omega.{arith}
use lib.ListN.{length}
use lib.Ieee.{Float}
use Rattle.limits.specs.Limits.{states}
use Rattle.binary64.specs.Doubles.{plus_zero}
use Rattle.refusal.specs.Result.{Result, refused, done}
use Rattle.linear_pk.specs.LinearPk.{state_count}
use Rattle.linear_pk.specs.declared.kernel.LinearPk.{LinearPk}
use Rattle.sheet.specs.Sheet.{Sheet, read_sheet}
use Rattle.sheet_kernel.specs.Values.{model_of}
use Rattle.printout.specs.Printout.{refused_text}
use Rattle.printout.proofs.Lengths.{places-most, refused-text-length}
use Rattle.cycle.specs.Closed.{Timed, stopped, got, then, untimed, SteadyState}
use Rattle.rig_run_sheet.proofs.Amounts.{few-states}
use Rattle.printout_steady.specs.SteadyPrintout.{steady_text}
use Rattle.printout_steady.proofs.Lines.{solved-length}
use Rattle.printout_steady.specs.SteadyReplies.{steady_printout}
use Rattle.rig_steady_cycle.specs.SheetCycle.{steady_with}
use Rattle.rig_steady_cycle.proofs.Kept.{Kept, steady_kept}
use Rattle.rig_steady_sheet.specs.SteadySheet.{steady_sheet, steady_of_bytes, most_steady_bytes, EverySteadyPrintoutFits}
use Rattle.sheet_kernel.proofs.Kernels.{model-sound}
use Rattle.sheet_kernel.proofs.Cycles.{sheet-refused, sheet_runs}

refusal-most : (c : ℕ) (t : Float) → length (refused_text c t) ≤ most_steady_bytes
refusal-most c t = omega (arith, refused-text-length c t, places-most 19 c)

kept_most : (n : ℕ) (o : Timed SteadyState) → n ≤ states → Kept n o → length (steady_text o) ≤ most_steady_bytes
unfolding steady_text
kept_most n (stopped c t) l h = refusal-most c t
kept_most n (got s) l h = omega (arith, h.amounts, solved-length s.maximum s.amounts s.residuals (omega (arith, h.amounts, h.residuals)))

pub every_steady_printout_fits : EverySteadyPrintoutFits
unfolding steady_of_bytes steady_sheet steady_text
every_steady_printout_fits bs = on (read_sheet bs)
  where
    model : (s : Sheet) (m : Result LinearPk) → model_of s.model ≡ m → length (steady_printout (steady_sheet s)).text ≤ most_steady_bytes
    model s (refused c) e = subst (λ (o : Timed SteadyState). length (steady_text o) ≤ most_steady_bytes) (sym (sheet-refused steady_with s e))
        (refusal-most c plus_zero)
    model s (done k) e = subst (λ (o : Timed SteadyState). length (steady_text o) ≤ most_steady_bytes) (sym (sheet_runs steady_with s e))
        (kept_most (state_count k) (steady_with k s.window s.samples s.events) (few-states k)
        (steady_kept k s.window s.samples s.events (model-sound s.model e)))

    on : (r : Result Sheet) → length (steady_printout (then (untimed r) steady_sheet)).text ≤ most_steady_bytes
    on (refused c) = refusal-most c plus_zero
    on (done s) = model s (model_of s.model) refl
