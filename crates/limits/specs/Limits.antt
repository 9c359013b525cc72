-- The limits of document 01, and the sizes that follow from them. The code has the same in `limits`.
use Rattle.std.specs.Prelude.{ℕ, ◌+◌, ◌-◌, ◌*◌}

-- the most states: depot, central and peripherals
abbrev pub states : ℕ
states = 4

-- the most events of a sheet, or of a cycle before folding
abbrev pub most_cycle_events : ℕ
most_cycle_events = 64

-- the most samples of a run
abbrev pub most_samples : ℕ
most_samples = 256

-- the words of an event
abbrev pub event_size : ℕ
event_size = 6

-- the most words of a sheet
abbrev pub sheet_words : ℕ
sheet_words = 8192

-- ---- what follows
-- the width of a block
abbrev pub block : ℕ
block = 2 * states

-- the most volumes: central and peripherals
abbrev pub most_volumes : ℕ
most_volumes = states - 1

-- the cells of a matrix of rates
abbrev pub rate_cells : ℕ
rate_cells = states * states

-- the cells of a kernel and of a bound kernel, for C: volume count, depot, volumes and rates, then amounts
abbrev pub kernel_cells : ℕ
kernel_cells = 2 + most_volumes + rate_cells

abbrev pub bound_cells : ℕ
bound_cells = kernel_cells + states

-- the most events of a run: folding yields at most three pieces of each
abbrev pub most_events : ℕ
most_events = 3 * most_cycle_events

-- the most boundaries: start, end, and two of each event
abbrev pub most_boundaries : ℕ
most_boundaries = 2 * most_events + 2

-- the most reckoned rows of a run
abbrev pub most_rows : ℕ
most_rows = 4 * most_events + most_samples + 2

-- the most reckoned rows and values of a sheet's run, and of a run inside a closed cycle, which has no samples
abbrev pub sheet_rows : ℕ
sheet_rows = 4 * most_cycle_events + most_samples + 2

abbrev pub sheet_values : ℕ
sheet_values = sheet_rows * states

abbrev pub cycle_rows : ℕ
cycle_rows = 4 * most_events + 2

abbrev pub cycle_values : ℕ
cycle_values = cycle_rows * states

-- how many of a sheet's amounts are read: one more than the most states, so that too many stay too many
abbrev pub read_amounts : ℕ
read_amounts = states + 1

-- the bytes of an event, and the most bytes of a sheet
abbrev pub event_bytes : ℕ
event_bytes = 8 * event_size

abbrev pub sheet_bytes : ℕ
sheet_bytes = 8 * sheet_words
