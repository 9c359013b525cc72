-- Events laid out as 64-bit words, six to an event, whose fields they are. 01, "The sheet and its printout". Definitions only.
use Rattle.std.specs.Prelude.{Bool, ◌&&◌, List, ℕ, ◌+◌, ◌*◌, ◌/◌, ◌%◌, eqb, length, get_or}
use Rattle.limits.specs.Limits.{event_size}
use Rattle.matrix.specs.Matrix.{tabulate, all_to}
use Rattle.protocol.specs.declared.Event.{Event}
use Rattle.events_layout.specs.Fields.{words_listed, event_from}

-- word k of event i
abbrev pub word_at : List ℕ → ℕ → ℕ → ℕ
word_at ws i k = get_or ws (event_size * i + k) 0

-- the whole events in the words
abbrev pub event_count : List ℕ → ℕ
event_count ws = length ws / event_size

-- the words of event i are among those listed
unfoldable pub event_fits : List ℕ → ℕ → Bool
event_fits ws i = words_listed (word_at ws i 0) (word_at ws i 4) (word_at ws i 5)

-- whole events only, and each fits
unfoldable pub events_fit : List ℕ → Bool
unfolding event_fits
events_fit ws = eqb (length ws % 6) 0 && all_to (event_fits ws) (event_count ws)

unfoldable pub event_of : List ℕ → ℕ → Event
unfolding event_from
event_of ws i = event_from (word_at ws i 0) (word_at ws i 1) (word_at ws i 2) (word_at ws i 3) (word_at ws i 4) (word_at ws i 5)

unfoldable pub events_of : List ℕ → List Event
unfolding event_of
events_of ws = tabulate (event_count ws) (event_of ws)
