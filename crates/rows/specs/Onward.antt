-- Where a run goes on from, or stops. Definitions only.
use Rattle.std.specs.Prelude.{◌+◌, ◌-◌, List, Float}
use Rattle.refusal.specs.declared.Refusal.{Refusal}
use Rattle.rows.specs.declared.Progress.{Progress}
use Rattle.rows.specs.declared.Stopped.{Stopped}

abbrev pub with_amounts : Progress → List Float → Progress
with_amounts p a = record { amounts = a; left = p.left; made = p.made; rows = p.rows }

-- stops at p with a refusal and its time
abbrev pub stops_with : Progress → Refusal → Float → Stopped
stops_with p x t = record { refusal = x; time = t; at = p }

-- behind one more row
abbrev pub past_row : Progress → Progress
past_row p = record { amounts = p.amounts; left = p.left; made = p.made; rows = p.rows + 1 }

-- with one more advance made, the budget at 0 too
abbrev pub past_advance : Progress → Progress
past_advance p = record { amounts = p.amounts; left = p.left - 1; made = p.made + 1; rows = p.rows }
