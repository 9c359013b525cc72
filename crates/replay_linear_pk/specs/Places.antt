-- Where the replies of an entry are counted. Definitions only.
use Rattle.std.specs.Prelude.{ℕ}
use Rattle.replay_linear_pk.specs.declared.replay.Entry.{Entry}
use Rattle.replay_linear_pk.specs.declared.replay.Entry.TheVariants.{New, Advance, Concentrations}

abbrev pub place_of : Entry → ℕ
place_of New = 1
place_of Advance = 2
place_of Concentrations = 3
