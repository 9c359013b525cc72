-- One more cycle from the amounts of a sheet's closed one, and the bytes that `rig-cycle` prints of it. Definitions, and two claims.
use Rattle.std.specs.Prelude.{◌≡◌, true, false, List, ℕ, ◌≤◌, length, Float}
use Rattle.limits.specs.Limits.{states}
use Rattle.linear_pk.specs.declared.kernel.LinearPk.{LinearPk}
use Rattle.sheet.specs.Sheet.{Sheet, read_sheet}
use Rattle.sheet_kernel.specs.Values.{model_of}
use Rattle.cycle.specs.Closed.{Timed, stopped, got, then, untimed, SteadyState}
use Rattle.printout.specs.Printouts.{Printout}
use Rattle.rig_steady_sheet.specs.SteadySheet.{steady_of_bytes}
use Rattle.printout_cycle.specs.CyclePrintout.{NextCycle, closes, lines_length}
use Rattle.rig_cycle_next.specs.NextRun.{next_with}
use Rattle.rig_cycle_next.specs.NextPrintout.{cycle_printout}

-- the model's 1 and 2 ahead, and the reader's 40 and 5 ahead of them
unfoldable pub next_sheet : Sheet → Timed NextCycle
unfolding next_with
next_sheet s = then (untimed (model_of s.model)) (λ (k : LinearPk). next_with k s.window s.samples s.events)

unfoldable pub next_of_bytes : List ℕ → Timed NextCycle
unfolding next_sheet
next_of_bytes bs = then (untimed (read_sheet bs)) next_sheet

abbrev pub cycle_printout_of_bytes : List ℕ → Printout
cycle_printout_of_bytes bs = cycle_printout (next_of_bytes bs)

-- ---- what is claimed
-- room for the printout of any sheet: the most states, and the longer verdict
abbrev pub most_cycle_bytes : ℕ
most_cycle_bytes = lines_length states false

abbrev pub EveryCyclePrintoutFits : Type 0
EveryCyclePrintoutFits = (bs : List ℕ) → length (cycle_printout_of_bytes bs).text ≤ most_cycle_bytes

-- a sheet whose closed cycle is refused has that refusal; one that is solved closes
pub record NextCloses (bs : List ℕ) : Type 0 where
  pub refused : (c : ℕ) (t : Float) → steady_of_bytes bs ≡ stopped c t → next_of_bytes bs ≡ stopped c t
  pub closed : (s : SteadyState) → steady_of_bytes bs ≡ got s
      → (x : NextCycle) × (next_of_bytes bs ≡ got x) × (x.starts ≡ s.amounts) × (x.residuals ≡ s.residuals)
      × (closes x.tolerance x.starts x.ends x.residuals ≡ true)

abbrev pub EveryNextCycleCloses : Type 0
EveryNextCycleCloses = (bs : List ℕ) → NextCloses bs
