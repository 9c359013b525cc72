-- How the code goes through the pairs: a place past the file stands for a body that is not where its pair says. Definitions only.
use Rattle.std.specs.Prelude.{◌≡◌, cond, ◌&&◌, List, ℕ, ◌+◌, eqb, leb, length}
use Rattle.sheet_words.specs.Head.{first_word, word_count}
use Rattle.sheet_words.specs.declared.Places.{Places}

unfoldable pub next_of : List ℕ → ℕ → ℕ → ℕ
next_of ws at k = cond (eqb (first_word ws k) at && leb (at + word_count ws k) (length ws)) (at + word_count ws k) (length ws + 1)

-- behind the bodies up to k
abbrev pub window_at : List ℕ → ℕ
window_at ws = next_of ws 11 0

abbrev pub amounts_at : List ℕ → ℕ
amounts_at ws = next_of ws (window_at ws) 1

abbrev pub samples_at : List ℕ → ℕ
samples_at ws = next_of ws (amounts_at ws) 2

abbrev pub events_at : List ℕ → ℕ
events_at ws = next_of ws (samples_at ws) 3

abbrev pub end_at : List ℕ → ℕ
end_at ws = next_of ws (events_at ws) 4

abbrev pub places_of : List ℕ → Places
places_of ws = record { model = 11; window = window_at ws; amounts = amounts_at ws; samples = samples_at ws; events = events_at ws; end = end_at ws }

-- each body lies where its pair says, between two places, and the last ends where the file does
pub record Located (ws : List ℕ) (p : Places) : Type 0 where
  pub model : (p.model ≡ first_word ws 0) × (p.window ≡ p.model + word_count ws 0)
  pub window : (p.window ≡ first_word ws 1) × (p.amounts ≡ p.window + word_count ws 1)
  pub amounts : (p.amounts ≡ first_word ws 2) × (p.samples ≡ p.amounts + word_count ws 2)
  pub samples : (p.samples ≡ first_word ws 3) × (p.events ≡ p.samples + word_count ws 3)
  pub events : (p.events ≡ first_word ws 4) × (p.end ≡ p.events + word_count ws 4)
  pub whole : p.end ≡ length ws
