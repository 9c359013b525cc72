-- The text of a closed cycle has bytes.
use Prim.Native.Nat.{◌≤◌}
use native.Mathlib.Omega.{arith}
use lib.ListN.{length, length-append}
use Rattle.cycle.specs.Closed.{Timed, stopped, got, SteadyState}
use Rattle.printout.proofs.Replies.{refusal_some}
use Rattle.printout_steady.specs.SteadyPrintout.{state_lines, max_line, solved_text, steady_text}
use Rattle.printout_steady.proofs.Lines.{max_length}

pub text_some : (o : Timed SteadyState) → 1 ≤ length (steady_text o)
unfolding steady_text solved_text
text_some (stopped c t) = refusal_some c t
text_some (got s) = omega (arith, length-append (state_lines s.amounts s.residuals) (max_line s.maximum), max_length s.maximum)
