-- `events_boundaries::boundaries` meets its contract.
use mathlib.Core.Path.{◌∙◌}
use native.Mathlib.Omega.{arith}
use lib.ListN.{length-append}
use Rattle.std.proofs.lemmas.List.{take-append-le}
use Rattle.protocol.specs.Events.{boundaries}
use Rattle.events_boundaries.proofs.boundaries.Goals as goal

pub returns : goal.returns
unfolding boundaries
returns c =
    let w = c.sorted_unique.ensures in
    (simp length-append (omega arith), take-append-le _ _ _ w.0 ∙ rw c.lay-n.ensures.1 at w.1, rw c.lay-n.ensures.1 at w.2)
