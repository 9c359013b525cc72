-- Demand 3's claim about two runs that reach the end and differ in samples, tolerances and budgets alone. A claim, no proof.
use Rattle.std.specs.Prelude.{◌≡◌, Bool, true, false, T, ℕ, Float}
use mathlib.Core.List.{List, Memᴰ}
use Rattle.std.specs.Float.Ieee.{eq}
use Rattle.protocol.specs.declared.Event.{Event}
use Rattle.protocol.specs.declared.Window.{Window}
use Rattle.binary64.specs.Lists.{filter}
use Rattle.protocol.specs.Execute.{Propagator, Side, Pre, Post, Reading, Row, State, go, run_of}
use Rattle.protocol.specs.PlainRun.{Prepared}

-- the side of a row at a boundary
abbrev pub boundary_side : Side → Bool
boundary_side Pre = true
boundary_side Post = true
boundary_side Reading = false

abbrev pub boundary_rows : List Row → List Row
boundary_rows rs = filter (λ (r : Row). boundary_side r.side) rs

-- the same boundary rows, and the same amounts in readings at equal times (==)
pub record SamplesApart (z z' : State) : Type 0 where
  pub boundary_rows_lem : boundary_rows z.rows ≡ boundary_rows z'.rows
  pub readings : (r r' : Row) → Memᴰ r z.rows → Memᴰ r' z'.rows → r.side ≡ Reading → r'.side ≡ Reading
      → T (eq r.time r'.time) → r.amounts ≡ r'.amounts

-- of two windows with the same ends, samples of their own, one list and the same amounts
abbrev pub EverySamplesApart : Type 0
EverySamplesApart =
    (n : ℕ) (advance : Propagator) (w w' : Window) (ss ss' : List Float) (es : List Event) (a : List Float)
    → Prepared n w ss es
    → Prepared n w' ss' es
    → w.start ≡ w'.start
    → w.end ≡ w'.end
    → (z z' : State)
    → run_of advance n w ss es a ≡ go z
    → run_of advance n w' ss' es a ≡ go z'
    → SamplesApart z z'
