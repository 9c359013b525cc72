-- Whether one more cycle from the amounts of a closed one closes. Definitions only.
use Rattle.std.specs.Prelude.{Bool, true, false, ◌&&◌, List, [], ◌∷◌, eqb, Float}
use Rattle.std.specs.Float.{binary64}
use Rattle.std.specs.Float.Ieee.{sub, le}
use Rattle.std.specs.Float.Ieee.Scale.{finite}
use Rattle.binary64.specs.Doubles.{one}
use Rattle.printout_numbers.specs.Digits.{bits_of}
use Rattle.cycle.specs.declared.SteadyStateTolerance.{SteadyStateTolerance}
use Rattle.cycle.specs.Closed.{scale_of, scaled_of}

-- of a state: its scale is finite, its scaled residual at most 1, and its residual has the bits of the one told
unfoldable pub state_closes : SteadyStateTolerance → Float → Float → Float → Bool
state_closes tol start end residual =
    finite (scale_of tol start end) && (le (scaled_of tol start end) one && eqb (bits_of (sub binary64 end start)) (bits_of residual))

unfoldable pub closes : SteadyStateTolerance → List Float → List Float → List Float → Bool
closes tol [] ends residuals = true
closes tol (s ∷ starts) [] residuals = false
closes tol (s ∷ starts) (e ∷ ends) [] = false
closes tol (s ∷ starts) (e ∷ ends) (r ∷ residuals) = state_closes tol s e r && closes tol starts ends residuals
