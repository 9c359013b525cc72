-- 01, "The sheet and its printout": little-endian 64-bit words, five bodies one behind the other. Definitions only.
use Rattle.std.specs.Prelude.{Bool, ◌&&◌, List, ℕ, eqb, leb, length}
use Rattle.limits.specs.Limits.{most_cycle_events, most_samples}
use Rattle.refusal.specs.Result.{Result, and_then, unless}
use Rattle.events_layout.specs.Layout.{event_count, events_fit}
pub use Rattle.sheet_words.specs.Words.{little_endian, word}
unfoldable pub use Rattle.sheet_words.specs.Words.{words_of}
pub use Rattle.sheet_words.specs.Head.{first_word, word_count, body, follow, words_fit}
unfoldable pub use Rattle.sheet_words.specs.Head.{placed}
unfoldable pub use Rattle.sheet.specs.Model.{model_fits}

-- start, end, rtol, atol, propagation, event and output budgets, absolute, relative
abbrev pub window_fits : List ℕ → Bool
window_fits w = eqb (length w) 9

-- ---- the sheet: its bodies, as words
pub record Sheet : Type 0 where
  pub model : List ℕ
  pub window : List ℕ
  pub amounts : List ℕ
  pub samples : List ℕ
  pub events : List ℕ

abbrev pub sheet_of : List ℕ → Sheet
sheet_of ws = record { model = body ws 0; window = body ws 1; amounts = body ws 2; samples = body ws 3; events = body ws 4 }

abbrev pub bodies_fit : Sheet → Bool
bodies_fit s = model_fits s.model && (window_fits s.window && events_fit s.events)

-- at most 64 events and 256 samples
abbrev pub within_limits : Sheet → Bool
within_limits s = leb (event_count s.events) most_cycle_events && leb (length s.samples) most_samples

-- 40 where the layout is broken, then 5
unfoldable pub read_sheet : List ℕ → Result Sheet
read_sheet bs =
    let ws = words_of bs in
    and_then (unless (words_fit bs && (placed ws && bodies_fit (sheet_of ws))) 40 (sheet_of ws)) (λ (s : Sheet). unless (within_limits s) 5 s)
