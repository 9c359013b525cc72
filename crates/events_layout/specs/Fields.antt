-- The fields of an event out of its six words: kind (0 bolus, 1 infusion, 2 reset); time; target; amount or value; duration or order; stops, 0 or 1.
-- 01, "The sheet and its printout". A double is its bits, and every NaN's bits give the one NaN. Words that a kind lacks may hold anything. Definitions only.
use Rattle.std.specs.Prelude.{Bool, cond, ◌&&◌, ◌||◌, ℕ, ◌%◌, eqb, leb}
use Rattle.std.specs.Float.{binary64}
use Rattle.std.specs.Float.Ieee.{of_bits}
use Rattle.protocol.specs.declared.Event.{Event}
use Rattle.protocol.specs.declared.Event.TheVariants.{Bolus, Infusion, Reset}

-- a kind at most 2; a reset's order at most 65,535 and its `stops` at most 1
abbrev pub words_listed : ℕ → ℕ → ℕ → Bool
words_listed kind order stops = leb kind 1 || (eqb kind 2 && (leb order 65535 && leb stops 1))

-- the event of six words: kind, time, target, amount or value, duration or order, stops; where it fits, the order is the word itself
unfoldable pub event_from : ℕ → ℕ → ℕ → ℕ → ℕ → ℕ → Event
event_from kind time target amount last stops =
    cond (eqb kind 0) (Bolus (of_bits binary64 time) target (of_bits binary64 amount))
    (cond (eqb kind 1) (Infusion (of_bits binary64 time) target (of_bits binary64 amount) (of_bits binary64 last))
    (Reset (of_bits binary64 time) target (of_bits binary64 amount) (last % 65536) (eqb stops 1)))
