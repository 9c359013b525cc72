-- The number of a refusal is above 0, which stands for done. Assumes nothing.
use Prim.Native.Nat.{◌≤◌}
use native.Mathlib.Omega.{arith}
use Rattle.refusal.specs.Numbers.{refusal_number}
use Rattle.refusal.specs.declared.Refusal.{Refusal}
use Rattle.refusal.specs.declared.Refusal.TheVariants as R

pub refusal-number : (r : Refusal) → 1 ≤ refusal_number r
refusal-number r = by_cases r
  where
    by_cases : (r : Refusal) → 1 ≤ refusal_number r
    by_cases R.Parameters = omega arith
    by_cases R.RateNotFinite = omega arith
    by_cases R.Argument = omega arith
    by_cases R.ShortSlice = omega arith
    by_cases R.Limit = omega arith
    by_cases R.Window = omega arith
    by_cases R.Sample = omega arith
    by_cases R.Event = omega arith
    by_cases R.EventBudget = omega arith
    by_cases R.OutputBudget = omega arith
    by_cases R.Period = omega arith
    by_cases R.CycleEvent = omega arith
    by_cases R.CycleInfusion = omega arith
    by_cases R.Overlap = omega arith
    by_cases R.Tolerance = omega arith
    by_cases R.NormNotFinite = omega arith
    by_cases R.TooManyHalvings = omega arith
    by_cases R.AmountNotFinite = omega arith
    by_cases R.ConcentrationNotFinite = omega arith
    by_cases R.PropagationBudget = omega arith
    by_cases R.State = omega arith
    by_cases R.SummedRates = omega arith
    by_cases R.Pivot = omega arith
    by_cases R.Candidate = omega arith
    by_cases R.Scale = omega arith
    by_cases R.Residual = omega arith
    by_cases R.Layout = omega arith
