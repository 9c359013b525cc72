-- The bytes of a closed cycle's printout: 01, "The sheet and its printout". A text is the list of its bytes. Definitions only.
use Rattle.std.specs.Prelude.{ℕ, ◌+◌, ◌*◌, cond, List, [], ◌∷◌, ◌++◌, eqb, take, Float}
use Rattle.printout.specs.Printout.{double_text, refused_text}
use Rattle.cycle.specs.Closed.{Timed, stopped, got, SteadyState}

-- amount and residual of a state
unfoldable pub state_line : Float → Float → List ℕ
state_line amount residual = double_text amount ++ (32 ∷ []) ++ double_text residual ++ (10 ∷ [])

-- state by state
unfoldable pub state_lines : List Float → List Float → List ℕ
state_lines [] residuals = []
state_lines (a ∷ amounts) [] = []
state_lines (a ∷ amounts) (r ∷ residuals) = state_line a r ++ state_lines amounts residuals

-- "max" and the greatest scaled residual
unfoldable pub max_line : Float → List ℕ
max_line maximum = (109 ∷ 97 ∷ 120 ∷ 32 ∷ []) ++ double_text maximum ++ (10 ∷ [])

unfoldable pub solved_text : SteadyState → List ℕ
solved_text s = state_lines s.amounts s.residuals ++ max_line s.maximum

-- ---- the whole text
unfoldable pub steady_text : Timed SteadyState → List ℕ
steady_text (stopped number time) = refused_text number time
steady_text (got s) = solved_text s

-- ---- the reply in the code's arguments: the number 0 stands for no refusal, n states stand in front of the two slices
abbrev pub solved_of : ℕ → Float → List Float → List Float → SteadyState
solved_of n maximum amounts residual = record { amounts = take n amounts; residuals = take n residual; maximum = maximum }

abbrev pub steady_result : ℕ → Float → ℕ → Float → List Float → List Float → Timed SteadyState
steady_result number time n maximum amounts residual = cond (eqb number 0) (got (solved_of n maximum amounts residual)) (stopped number time)

-- ---- its length
abbrev pub solved_length : ℕ → ℕ
solved_length n = 34 * n + 21
