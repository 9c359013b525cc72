-- The places that a reader answers. Definitions only.
use Rattle.std.specs.Prelude.{◌≡◌, List, ℕ, ◌-◌, take, drop}
use Rattle.refusal.specs.Result.{Result, and_then, done}
use Rattle.sheet.specs.Sheet.{words_of, Sheet, read_sheet}
use Rattle.sheet_words.specs.declared.Places.{Places}
unfoldable pub use Rattle.sheet_words.specs.Places.{next_of}
pub use Rattle.sheet_words.specs.Places.{window_at, amounts_at, samples_at, events_at, end_at, places_of, Located}

-- the places of the bodies of a sheet that is read
unfoldable pub read_places : List ℕ → Result Places
read_places bs = and_then (read_sheet bs) (λ (s : Sheet). done (places_of (words_of bs)))

-- a part of the bytes: the words from one place up to another
pub record Between (bs : List ℕ) (first end : ℕ) (part : List ℕ) : Type 0 where
  pub words : words_of part ≡ take (end - first) (drop first (words_of bs))
