-- One more cycle from the amounts of a closed one, and the bytes that `rig-cycle` prints of it. A text is the list of its bytes. Definitions only.
use Rattle.std.specs.Prelude.{ℕ, ◌+◌, ◌*◌, Bool, cond, List, [], ◌∷◌, ◌++◌, Float}
use Rattle.printout.specs.Printout.{refused_text}
use Rattle.cycle.specs.declared.SteadyStateTolerance.{SteadyStateTolerance}
use Rattle.cycle.specs.Closed.{Timed, stopped, got}
unfoldable pub use Rattle.printout_cycle.specs.Lines.{field_text, cycle_line, cycle_lines}
unfoldable pub use Rattle.printout_cycle.specs.Closes.{state_closes, closes}

-- the amounts at the start and at the end of the cycle, the residuals that the solution told, and its tolerance
pub record NextCycle : Type 0 where
  pub tolerance : SteadyStateTolerance
  pub starts : List Float
  pub ends : List Float
  pub residuals : List Float

-- "closed" or "not closed"
unfoldable pub verdict_line : Bool → List ℕ
verdict_line b = cond b (99 ∷ 108 ∷ 111 ∷ 115 ∷ 101 ∷ 100 ∷ 10 ∷ []) (110 ∷ 111 ∷ 116 ∷ 32 ∷ 99 ∷ 108 ∷ 111 ∷ 115 ∷ 101 ∷ 100 ∷ 10 ∷ [])

-- ---- the whole text
unfoldable pub lines_text : NextCycle → List ℕ
lines_text c = cycle_lines c.tolerance c.starts c.ends ++ verdict_line (closes c.tolerance c.starts c.ends c.residuals)

unfoldable pub cycle_text : Timed NextCycle → List ℕ
cycle_text (stopped number time) = refused_text number time
cycle_text (got c) = lines_text c

-- ---- the length of the lines
abbrev pub lines_length : ℕ → Bool → ℕ
lines_length n closed = 68 * n + cond closed 7 11
