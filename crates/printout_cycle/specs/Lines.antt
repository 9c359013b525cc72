-- The lines that `rig-cycle` prints of one more cycle. A text is the list of its bytes. Definitions only.
use Rattle.std.specs.Prelude.{ℕ, List, [], ◌∷◌, ◌++◌, Float}
use Rattle.std.specs.Float.{binary64}
use Rattle.std.specs.Float.Ieee.{sub}
use Rattle.printout_numbers.specs.Digits.{double_text}
use Rattle.cycle.specs.declared.SteadyStateTolerance.{SteadyStateTolerance}
use Rattle.cycle.specs.Closed.{scaled_of}

-- a double and a space
unfoldable pub field_text : Float → List ℕ
field_text x = double_text x ++ (32 ∷ [])

-- start, end, residual and scaled residual of a state
unfoldable pub cycle_line : SteadyStateTolerance → Float → Float → List ℕ
cycle_line tol start end = field_text start ++ field_text end ++ field_text (sub binary64 end start) ++ double_text (scaled_of tol start end) ++ (10 ∷ [])

unfoldable pub cycle_lines : SteadyStateTolerance → List Float → List Float → List ℕ
cycle_lines tol [] ends = []
cycle_lines tol (s ∷ starts) [] = []
cycle_lines tol (s ∷ starts) (e ∷ ends) = cycle_line tol s e ++ cycle_lines tol starts ends
