-- The folded cycle over words, six to an event: what the C interface replies and writes. Definitions only.
use Rattle.std.specs.Prelude.{List, ℕ, ◌*◌, leb, length, Float}
use Rattle.limits.specs.Limits.{event_size}
use Rattle.refusal.specs.Result.{Result, done, and_then, unless, slice_at_exit}
use Rattle.linear_pk.specs.declared.kernel.LinearPk.{LinearPk}
use Rattle.events_layout.specs.Layout.{events_fit, events_of}
use Rattle.events_words.specs.Words.{list_words}
use Rattle.protocol.specs.declared.Event.{Event}
use Rattle.protocol.specs.declared.Window.{Window}
use Rattle.fold.specs.Entry.{fold_entry}

-- 40 where the words are no events, the library's fold, 4 where the list has no room in that many words
unfoldable pub fold_words : LinearPk → Window → List ℕ → List Float → ℕ → Result (List Event)
unfolding fold_entry
fold_words k w ws ss room =
    and_then (unless (events_fit ws) 40 ws)
    (λ ws. and_then (fold_entry k w ss (events_of ws)) (λ es. unless (leb (event_size * length es) room) 4 es))

-- how many events are listed
abbrev pub count_of : Result (List Event) → Result ℕ
count_of o = and_then o (λ es. done (length es))

-- the folded list's words from the front on, the cells behind them as they were; all as they were at a refusal
unfoldable pub cells_of : Result (List Event) → List ℕ → List ℕ
cells_of o old = slice_at_exit (and_then o (λ es. done (list_words es))) old
