-- 01, "Who brought it on": the number of each refusal.
use Rattle.std.specs.Prelude.{ℕ, Ok, Err, Result as Outcome}
use Rattle.refusal.specs.declared.Refusal.{Refusal}
use Rattle.refusal.specs.declared.Refusal.TheVariants as R
use Rattle.refusal.specs.Result.{Result, refused, done}

abbrev pub refusal_number : Refusal → ℕ
refusal_number R.Parameters = 1
refusal_number R.RateNotFinite = 2
refusal_number R.Argument = 3
refusal_number R.ShortSlice = 4
refusal_number R.Limit = 5
refusal_number R.Window = 10
refusal_number R.Sample = 11
refusal_number R.Event = 12
refusal_number R.EventBudget = 13
refusal_number R.OutputBudget = 14
refusal_number R.Period = 15
refusal_number R.CycleEvent = 16
refusal_number R.CycleInfusion = 17
refusal_number R.Overlap = 18
refusal_number R.Tolerance = 19
refusal_number R.NormNotFinite = 20
refusal_number R.TooManyHalvings = 21
refusal_number R.AmountNotFinite = 22
refusal_number R.ConcentrationNotFinite = 23
refusal_number R.PropagationBudget = 30
refusal_number R.State = 31
refusal_number R.SummedRates = 32
refusal_number R.Pivot = 33
refusal_number R.Candidate = 34
refusal_number R.Scale = 35
refusal_number R.Residual = 36
refusal_number R.Layout = 40

-- what an entry replies that hands back no value
abbrev pub Reply : Type 0
Reply = Outcome (Unit {0}) Refusal

-- 0 stands for done
abbrev pub reply_number : Reply → ℕ
reply_number (Ok u) = 0
reply_number (Err r) = refusal_number r

-- a reply, beside the value that goes with it
abbrev pub result_of : {A : Type 0} → Reply → A → Result A
result_of (Ok u) a = done a
result_of (Err r) a = refused (refusal_number r)

-- what an entry gives: a value, or the refusal's number
abbrev pub outcome_of : {A : Type 0} → Outcome A Refusal → Result A
outcome_of (Ok a) = done a
outcome_of (Err r) = refused (refusal_number r)

-- the same of the part f of the value
abbrev pub outcome_with : {A B : Type 0} → (A → B) → Outcome A Refusal → Result B
outcome_with f (Ok a) = done (f a)
outcome_with f (Err r) = refused (refusal_number r)
