-- A reply and the two lent slices that tell a closed cycle. Definitions only.
use Rattle.std.specs.Prelude.{◌≡◌, List, Float}
use Rattle.cycle.specs.Closed.{Timed, SteadyState, SteadyReport, steady_report_of, answer_at_exit}

-- the reply r; the amounts' slice from a to a', the residuals' from e to e'
pub record SteadyAnswer (o : Timed SteadyState) (r : SteadyReport) (a e a' e' : List Float) : Type 0 where
  pub reply : r ≡ steady_report_of o
  pub amounts : a' ≡ answer_at_exit (λ s. s.amounts) o a
  pub residuals : e' ≡ answer_at_exit (λ s. s.residuals) o e
