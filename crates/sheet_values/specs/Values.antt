-- 01, "The sheet and its printout": doubles, and the window. Doubles are their bits. Definitions only.
use Rattle.std.specs.Prelude.{cond, List, ℕ, ◌+◌, eqb, Float}
use Rattle.std.specs.Float.{binary64}
use Rattle.std.specs.Float.Ieee.{of_bits}
use Rattle.matrix.specs.Matrix.{tabulate}
use Rattle.protocol.specs.declared.Window.{Window}
use Rattle.sheet_words.specs.Words.{word}

abbrev pub double_of : List ℕ → ℕ → Float
double_of ws i = of_bits binary64 (word ws i)

-- m doubles from word i on
abbrev pub doubles_from : List ℕ → ℕ → ℕ → List Float
doubles_from ws i m = tabulate m (λ k. double_of ws (i + k))

-- ---- the window: a propagation word of 0 stands for 1,000
abbrev pub propagations_of : ℕ → ℕ
propagations_of given = cond (eqb given 0) 1000 given

unfoldable pub sheet_window : List ℕ → Window
sheet_window w = record {
  start = double_of w 0;
  end = double_of w 1;
  rtol = double_of w 2;
  atol = double_of w 3;
  propagations = propagations_of (word w 4);
  events = word w 5;
  outputs = word w 6;
}
