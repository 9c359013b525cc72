-- Where the replies of an entry are counted. Definitions only.
use Rattle.std.specs.Prelude.{ℕ}
use Rattle.replay_sheets.specs.declared.replay.Entry.{Entry}
use Rattle.replay_sheets.specs.declared.replay.Entry.TheVariants.{RunSheet, SteadySheet}

abbrev pub place_of : Entry → ℕ
place_of RunSheet = 0
place_of SteadySheet = 1
