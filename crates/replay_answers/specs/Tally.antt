-- How many lines were read, how many of them called, and how many answers are not the stored ones. Definitions only.
use Rattle.std.specs.Prelude.{◌≡◌, ℕ, ◌+◌, ◌-◌, ◌^◌, min, Bool, cond, MatchBool, List, [], ◌∷◌, eqb, Option, Some, None, Result, Ok, Err}
use Rattle.std.specs.List.{starts_with}
use Rattle.std.specs.Str.{IsUtf8}
use Rattle.replay_answers.specs.declared.error.LineError.{LineError}
use Rattle.replay_answers.specs.declared.error.LineError.TheVariants.{Malformed}
use Rattle.replay_answers.specs.declared.tally.Called.{Called}
use Rattle.replay_answers.specs.declared.entry_tally.EntryTally.{EntryTally}

pub record Counts : Type 0 where
  pub lines : ℕ
  pub answers : ℕ
  pub differ : ℕ

abbrev pub counts_of : {E : Type 0} → EntryTally E → Counts
counts_of tally = record { lines = tally.lines; answers = tally.answers; differ = tally.differ }

abbrev pub no_counts : Counts
no_counts = record { lines = 0; answers = 0; differ = 0 }

-- one more, as far as 64 bits go
abbrev pub one_more : ℕ → ℕ
one_more n = min (n + 1) (2 ^ 64 - 1)

-- with a line that is a comment
abbrev pub skipped : Counts → Counts
skipped a = record { lines = one_more a.lines; answers = a.answers; differ = a.differ }

-- with a line and what its call came to: one that is not in the layout differs
abbrev pub answered : {E : Type 0} → Option (Called E) → Counts → Counts
answered None a = record { lines = one_more a.lines; answers = one_more a.answers; differ = one_more a.differ }
answered (Some c) a = record { lines = one_more a.lines; answers = one_more a.answers; differ = cond c.same a.differ (one_more a.differ) }

abbrev pub is_comment : List ℕ → Bool
is_comment line = starts_with eqb line (35 ∷ [])

module _ {E : Type 0} (gives : List ℕ → Result (Called E) LineError → Type 0) where
  -- what a line comes to where `gives text r` says that r is a possible result of the call at this text
  abbrev pub CameTo : List ℕ → Option (Called E) → Type 0
  CameTo line (Some called) = IsUtf8 line × gives line (Ok called)
  CameTo line None = IsUtf8 line → gives line (Err Malformed)

  -- what one line makes of the counts
  abbrev pub Counted : Counts → List ℕ → Counts → Type 0
  Counted a line b = MatchBool (is_comment line) (b ≡ skipped a) ((called : Option (Called E)) × CameTo line called × (b ≡ answered called a))
