-- The parameters of a kernel in a line. Definitions only.
use Rattle.std.specs.Prelude.{ℕ, cond, List, map, eqb, Float, Option, Some, None}
use Rattle.std.specs.Float.{binary64}
use Rattle.std.specs.Float.Ieee.{of_bits}
use Rattle.replay_answers.specs.Words.{Reader, then, double_of, at_most, list_of}

-- clearance, lists of volumes and exchanges with these rooms, depot 0 or 1, absorption
unfoldable pub parameters_of : ℕ → ℕ → Reader (Float × List Float × List Float × Option Float)
unfolding then
parameters_of volumes exchanges ws =
    then (double_of ws) (λ clearance ws. then (list_of volumes ws) (λ vs ws. then (list_of exchanges ws) (λ qs ws.
    then (at_most 1 ws) (λ depot ws. then (double_of ws) (λ rate ws.
    Some ((clearance, map (of_bits binary64) vs, map (of_bits binary64) qs, cond (eqb depot 0) None (Some rate)), ws))))))
