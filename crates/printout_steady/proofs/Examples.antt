-- Printouts worked out byte by byte: a closed cycle of one state, one of two, and a refusal.
use mathlib.Core.Path.{◌≡◌, refl}
use mathlib.Core.Bool.{true, false}
use mathlib.Core.List.{[], ◌∷◌}
use Prim.Native.Nat.{ℕ}
use lib.IntN.{pos, negsuc}
use lib.Ieee.{Float, fin, to_bits}
use Rattle.binary64.specs.Doubles.{plus_zero, one}
use Rattle.printout.specs.Printout.{glyph, digits, places, decimal, hexadecimal, bits_of, double_text, refused_text}
use Rattle.cycle.specs.Closed.{stopped, got}
use Rattle.printout_steady.specs.SteadyPrintout.{state_line, state_lines, max_line, solved_text, steady_text}

unfoldable opened : ℕ
unfolding glyph digits places decimal hexadecimal bits_of to_bits double_text refused_text state_line state_lines max_line solved_text steady_text
opened = 0

abbrev two : Float
two = fin false 1 (pos 1)

-- 2^−52
abbrev small : Float
small = fin false 1 (negsuc 51)

abbrev minus_small : Float
minus_small = fin true 1 (negsuc 51)

abbrev minus_zero : Float
minus_zero = fin true 0 (negsuc 1073)

-- the amount 2, its residual 2^−52, and the greatest scaled one, 0.5
one_state : steady_text (got (record { amounts = two ∷ []; residuals = small ∷ []; maximum = fin false 1 (negsuc 0) })) ≡
    52 ∷ 48 ∷ 48 ∷ 48 ∷ 48 ∷ 48 ∷ 48 ∷ 48 ∷ 48 ∷ 48 ∷ 48 ∷ 48 ∷ 48 ∷ 48 ∷ 48 ∷ 48 ∷ 32 ∷ 51 ∷ 99 ∷ 98 ∷ 48 ∷ 48 ∷ 48 ∷ 48 ∷ 48 ∷ 48 ∷ 48
    ∷ 48 ∷ 48 ∷ 48 ∷ 48 ∷ 48 ∷ 48 ∷ 10 ∷
    109 ∷ 97 ∷ 120 ∷ 32 ∷ 51 ∷ 102 ∷ 101 ∷ 48 ∷ 48 ∷ 48 ∷ 48 ∷ 48 ∷ 48 ∷ 48 ∷ 48 ∷ 48 ∷ 48 ∷ 48 ∷ 48 ∷ 48 ∷ 10 ∷ []
unfolding opened
one_state = refl

-- state by state: the amounts 1 and −0, the residuals −2^−52 and +0, and the greatest, 1
two-states : steady_text (got (record { amounts = one ∷ minus_zero ∷ []; residuals = minus_small ∷ plus_zero ∷ []; maximum = one })) ≡
    51 ∷ 102 ∷ 102 ∷ 48 ∷ 48 ∷ 48 ∷ 48 ∷ 48 ∷ 48 ∷ 48 ∷ 48 ∷ 48 ∷ 48 ∷ 48 ∷ 48 ∷ 48 ∷ 32 ∷ 98 ∷ 99 ∷ 98 ∷ 48 ∷ 48 ∷ 48 ∷ 48 ∷ 48 ∷ 48 ∷ 48
    ∷ 48 ∷ 48 ∷ 48 ∷ 48 ∷ 48 ∷ 48 ∷ 10 ∷
    56 ∷ 48 ∷ 48 ∷ 48 ∷ 48 ∷ 48 ∷ 48 ∷ 48 ∷ 48 ∷ 48 ∷ 48 ∷ 48 ∷ 48 ∷ 48 ∷ 48 ∷ 48 ∷ 32 ∷ 48 ∷ 48 ∷ 48 ∷ 48 ∷ 48 ∷ 48 ∷ 48 ∷ 48 ∷ 48 ∷ 48
    ∷ 48 ∷ 48 ∷ 48 ∷ 48 ∷ 48 ∷ 48 ∷ 10 ∷
    109 ∷ 97 ∷ 120 ∷ 32 ∷ 51 ∷ 102 ∷ 102 ∷ 48 ∷ 48 ∷ 48 ∷ 48 ∷ 48 ∷ 48 ∷ 48 ∷ 48 ∷ 48 ∷ 48 ∷ 48 ∷ 48 ∷ 48 ∷ 10 ∷ []
unfolding opened
two-states = refl

-- "refused 33" and +0
refused : steady_text (stopped 33 plus_zero) ≡
    114 ∷ 101 ∷ 102 ∷ 117 ∷ 115 ∷ 101 ∷ 100 ∷ 32 ∷ 51 ∷ 51 ∷ 32 ∷ 48 ∷ 48 ∷ 48 ∷ 48 ∷ 48 ∷ 48 ∷ 48 ∷ 48 ∷ 48 ∷ 48 ∷ 48 ∷ 48 ∷ 48 ∷ 48 ∷ 48 ∷ 48 ∷ 10 ∷ []
unfolding opened
refused = refl
