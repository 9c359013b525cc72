-- How many lines were read, how many of them called, how many answers are not the stored ones, and how often each entry gave each reply, by
-- the entry's place. Definitions only.
use Rattle.std.specs.Prelude.{◌≡◌, ℕ, ◌+◌, ◌*◌, cond, ◌&&◌, ltb, MatchBool, List, replicate, slice_index, slice_set, Option, Some, None, Result, Ok, Err}
use Rattle.refusal.specs.Numbers.{reply_number}
use Rattle.replay_answers.specs.declared.error.NoCall.{NoCall}
use Rattle.replay_answers.specs.declared.tally.Called.{Called}
use Rattle.replay_answers.specs.declared.tally.Tally.{Tally}
use Rattle.replay_answers.specs.Tally.{one_more, is_comment}

pub record PlacedCounts : Type 0 where
  pub lines : ℕ
  pub answers : ℕ
  pub differ : ℕ
  pub counts : List ℕ

abbrev pub placed_counts_of : Tally → PlacedCounts
placed_counts_of tally = record { lines = tally.lines; answers = tally.answers; differ = tally.differ; counts = tally.counts }

abbrev pub no_placed_counts : PlacedCounts
no_placed_counts = record { lines = 0; answers = 0; differ = 0; counts = replicate 164 0 }

-- with a reply of the entry at a place: of 41 replies each, one behind the other
unfoldable pub replied : ℕ → ℕ → List ℕ → List ℕ
replied place number counts =
    cond (ltb place 4 && ltb number 41) (slice_set counts (place * 41 + number) (one_more (slice_index counts (place * 41 + number)))) counts

-- with a line that is a comment
abbrev pub placed_skipped : PlacedCounts → PlacedCounts
placed_skipped a = record { lines = one_more a.lines; answers = a.answers; differ = a.differ; counts = a.counts }

-- with a line and what its call came to: one that is not in the layout differs
abbrev pub placed_answered : {E : Type 0} → (E → ℕ) → Option (Called E) → PlacedCounts → PlacedCounts
placed_answered place None a = record { lines = one_more a.lines; answers = one_more a.answers; differ = one_more a.differ; counts = a.counts }
placed_answered place (Some c) a =
    record {
      lines = one_more a.lines;
      answers = one_more a.answers;
      differ = cond c.same a.differ (one_more a.differ);
      counts = replied (place c.entry) (reply_number c.outcome) a.counts;
    }

module _ {E : Type 0} (place : E → ℕ) (gives : List ℕ → Result (Called E) NoCall → Type 0) where
  -- what a line comes to where `gives text r` says that r is a possible result of the call at this text; `record {}` is the one `NoCall`
  abbrev pub PlacedCameTo : List ℕ → Option (Called E) → Type 0
  PlacedCameTo line (Some called) = gives line (Ok called)
  PlacedCameTo line None = gives line (Err (record {}))

  -- what one line makes of the counts
  abbrev pub PlacedCounted : PlacedCounts → List ℕ → PlacedCounts → Type 0
  PlacedCounted a line b = MatchBool (is_comment line) (b ≡ placed_skipped a) ((called : Option (Called E)) × PlacedCameTo line called × (b ≡ placed_answered place called a))
