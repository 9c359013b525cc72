-- 01, "The sheet and its printout": the run of a kernel and the other bodies of a sheet. Definitions only.
use Rattle.std.specs.Prelude.{List, ℕ, ◌*◌, length, Float}
use Rattle.refusal.specs.Result.{Result}
use Rattle.linear_pk.specs.LinearPk.{sound, state_count}
use Rattle.linear_pk.specs.declared.kernel.LinearPk.{LinearPk}
use Rattle.protocol.specs.Prepare.{reckoned}
use Rattle.protocol.specs.Execute.{Outcome}
use Rattle.protocol.specs.Entry.{Room, simulate}
use Rattle.preparation.specs.Preparation.{own_number}
use Rattle.simulation.specs.KernelRun.{propagator_of}
use Rattle.events_layout.specs.Layout.{events_of}
use Rattle.sheet_kernel.specs.Values.{doubles_from, sheet_window}

-- all words as doubles
abbrev pub doubles_of : List ℕ → List Float
doubles_of ws = doubles_from ws 0 (length ws)

-- cells for so many rows of n amounts, and no more
abbrev pub room_of : ℕ → ℕ → Room
room_of rows n = record { times = rows; sides = rows; values = rows * n }

-- the library's run of a kernel and the words of window, amounts, samples and events, into slices of the reckoned rows
unfoldable pub run_with : LinearPk → List ℕ → List ℕ → List ℕ → List ℕ → Result Outcome
run_with k w a ss es =
    simulate (propagator_of k) (own_number (sound k)) (state_count k) (sheet_window w) (doubles_of ss) (events_of es) (doubles_of a)
    (room_of (reckoned (doubles_of ss) (events_of es)) (state_count k))

-- the reckoned rows, from the words of samples and events
abbrev pub reckoned_of : List ℕ → List ℕ → ℕ
reckoned_of ss es = reckoned (doubles_of ss) (events_of es)
