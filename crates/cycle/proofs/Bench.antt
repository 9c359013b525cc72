-- Folds, eliminations and closed cycles worked out; where a rounding shows, the bits are those of the Rust. The closed cycles have an
-- advance that stands for a kernel's. Assumes nothing.
use mathlib.Core.Path.{◌≡◌, refl}
use Prim.Native.Nat.{ℕ, ◌+◌, ◌-◌, ◌^◌}
use mathlib.Core.Bool.{Bool, true, false}
use mathlib.Core.List.{List, [], ◌∷◌, map, zip_with}
use lib.IntN.{pos, negsuc}
use lib.Ieee.{Float, nan, fin, binary64, add, sub, mul, div, rem, neg, lt, le, eq, is_nan, of_int}
use Rattle.binary64.specs.Doubles.{plus_zero, one, half, magnitude, total_le, larger, smaller, floor_of}
use Rattle.binary64.specs.Sort.{sort_by, firsts}
use Rattle.refusal.specs.Result.{Result, refused, done}
use Rattle.matrix.specs.Matrix.{tabulate, table, cell, sum_to}
use Rattle.matrix.specs.Exponential.{row_sum, norm_to}
use Rattle.protocol.specs.declared.Event.{Event}
use Rattle.protocol.specs.declared.Event.TheVariants.{Bolus, Infusion, Reset}
use Rattle.protocol.specs.declared.Window.{Window}
use Rattle.protocol.specs.Events.{target, is_reset, is_bolus, running, marks}
use Rattle.protocol.specs.Prepare.{prepare}
use Rattle.protocol.specs.Schedule.{flows, infusion_rate}
use Rattle.protocol.specs.Execute.{Propagator, dosed, run_of}
use Rattle.cycle.specs.declared.SteadyStateTolerance.{SteadyStateTolerance}
use Rattle.cycle.specs.Fold.{fold}
use Rattle.cycle.specs.Elimination.{solve}
use Rattle.cycle.specs.Closed.{Timed, stopped, got, judged, SteadyState, closed}

-- what a computed instance opens
unfoldable opened : ℕ
unfolding add sub mul div rem neg lt le eq is_nan of_int magnitude total_le larger smaller floor_of sort_by firsts tabulate table sum_to row_sum
    norm_to zip_with target is_reset is_bolus running marks prepare flows infusion_rate dosed run_of fold solve judged closed
opened = 0

-- whole numbers
abbrev two : Float
two = fin false 1 (pos 1)

abbrev three : Float
three = fin false 3 (pos 0)

abbrev four : Float
four = fin false 1 (pos 2)

abbrev five : Float
five = fin false 5 (pos 0)

abbrev six : Float
six = fin false 3 (pos 1)

abbrev eight : Float
eight = fin false 1 (pos 3)

abbrev sixteen : Float
sixteen = fin false 1 (pos 4)

-- the largest double
abbrev most : Float
most = fin false (2 ^ 53 - 1) (pos 971)

-- ---- the fold of one state, with tolerances 1 and budgets 100
abbrev window : Float → Float → Window
window s e = record { start = s; end = e; rtol = one; atol = one; propagations = 100; events = 100; outputs = 100 }

abbrev folded : Float → Float → List Event → Result (List Event)
folded s e es = fold 1 (window s e) [] es

-- 0 to 8, 26 over 13 at 5: a whole period at the start, then the head, then the tail at the start
abbrev long : Event
long = Infusion five 0 (fin false 13 (pos 1)) (fin false 13 (pos 0))

three-pieces : folded plus_zero eight (long ∷ []) ≡ done (Infusion plus_zero 0 sixteen eight ∷ Infusion five 0 six three ∷ Infusion plus_zero 0 four two ∷ [])
unfolding opened
three-pieces = refl

-- stopped by a reset at 1 a period later, at 9
abbrev stop : Float → Event
stop t = Reset t 0 plus_zero 0 true

next-period : folded plus_zero eight (long ∷ stop one ∷ []) ≡ done (Infusion five 0 six three ∷ Infusion plus_zero 0 two one ∷ stop one ∷ [])
unfolding opened
next-period = refl

-- stopped by a reset at its own time a period later: no whole periods, although one fits
no_whole_periods : folded plus_zero eight (long ∷ stop five ∷ [])
    ≡ done (Infusion five 0 six three ∷ Infusion plus_zero 0 (fin false 5 (pos 1)) five ∷ stop five ∷ [])
unfolding opened
no_whole_periods = refl

-- −1 to 2^−53, whose period rounds to 1: the reset's next time is 0, which is not after 0, and is passed over; what is left reaches past the end
passed_over : folded (neg one) (fin false 1 (negsuc 52)) (Infusion plus_zero 0 three three ∷ stop (neg one) ∷ []) ≡ refused 12
unfolding opened
passed_over = refl

-- 0 to 0.1, 0.5 over 0.5 at 0: the quotient rounds up to 5, and % leaves 0.09999999999999998
abbrev tenth : Float
tenth = fin false 0xc_cccc_cccc_cccd (negsuc 54)

quotient_rounds_up : folded plus_zero tenth (Infusion plus_zero 0 half half ∷ [])
    ≡ done (Infusion plus_zero 0 half tenth ∷ Infusion plus_zero 0 (fin false 0x3_3333_3333_3333 (negsuc 52)) (fin false 0x3_3333_3333_3333 (negsuc 52)) ∷ [])
unfolding opened
quotient_rounds_up = refl

-- 0 to 3, 31 over 15 at 0: rate × period first; the other ways round give 31 and 31.000000000000004
rate_times_period_first : folded plus_zero three (Infusion plus_zero 0 (fin false 31 (pos 0)) (fin false 15 (pos 0)) ∷ [])
    ≡ done (Infusion plus_zero 0 (fin false 0xf_8000_0000_0001 (negsuc 46)) three ∷ [])
unfolding opened
rate_times_period_first = refl

-- the order of the numbers: 15 ahead of 16; 13 of the list so far ahead of a later event's 16; 16 ahead of 10; 17 for an infusion's amount
-- that 12 would take as well
abbrev tight : Window
tight = record { start = plus_zero; end = eight; rtol = plus_zero; atol = one; propagations = 100; events = 2; outputs = 100 }

order_of_numbers : (fold 1 (window eight plus_zero) [] (Bolus eight 0 one ∷ []) ≡ refused 15)
    × (fold 1 tight [] (long ∷ Bolus eight 0 one ∷ []) ≡ refused 13)
    × (fold 1 tight [] (Bolus eight 0 one ∷ []) ≡ refused 16)
    × (fold 1 tight [] (Infusion plus_zero 9 nan one ∷ []) ≡ refused 17)
    × (fold 1 tight (nan ∷ []) (Bolus plus_zero 9 one ∷ []) ≡ refused 10)
unfolding opened
order_of_numbers = (refl, refl, refl, refl, refl)

-- ---- elimination
-- a pivot tie: the last row among equals. With the first row the first amount is 0.33333333333333326.
abbrev third : Float
third = fin false 0x15_5555_5555_5555 (negsuc 53)

pivot_tie : solve 2 (record { matrix = (one ∷ neg four ∷ []) ∷ (one ∷ neg one ∷ []) ∷ []; right = neg one ∷ plus_zero ∷ [] }) ≡ done (third ∷ third ∷ [])
unfolding opened
pivot_tie = refl

-- a pivot at 64·2^−52·max(norm, 1) is refused, and the next double above it is taken
abbrev column : Float → Result (List Float)
column x = solve 1 (record { matrix = (x ∷ []) ∷ []; right = one ∷ [] })

least_pivot_lem : (column (fin false 1 (negsuc 45)) ≡ refused 33) × (column (fin false (2 ^ 52 + 1) (negsuc 97)) ≡ done (fin false (2 ^ 52 - 1) (negsuc 5) ∷ []))
unfolding opened
least_pivot_lem = (refl, refl)

-- ---- closed cycles over 0 to 1, with a bolus of 1 at 0
abbrev bolus : List Event
bolus = Bolus plus_zero 0 one ∷ []

abbrev tolerance : Float → Float → SteadyStateTolerance
tolerance a r = record { absolute = a; relative = r }

abbrev solved : List Float → List Float → Float → Timed SteadyState
solved a r m = got (record { amounts = a; residuals = r; maximum = m })

-- an advance that halves the amounts: the budgets are divided by n + 2, here 3, and 4 comes behind 14
halving : Propagator
halving a r d = done (map (λ (x : Float). mul binary64 x half) a)

abbrev budgeted : ℕ → ℕ → ℕ → Bool → Timed SteadyState
budgeted p e o room =
    closed halving 1 (record { start = plus_zero; end = one; rtol = one; atol = one; propagations = p; events = e; outputs = o }) [] bolus
    (tolerance one one) room

budgets_divided : (budgeted 3 3 18 true ≡ solved (one ∷ []) (plus_zero ∷ []) plus_zero)
    × (budgeted 3 2 17 true ≡ stopped 13 plus_zero)
    × (budgeted 2 3 17 false ≡ stopped 14 plus_zero)
    × (budgeted 2 3 18 false ≡ stopped 4 plus_zero)
    × (budgeted 2 3 18 true ≡ stopped 30 one)
unfolding opened halving
budgets_divided = (refl, refl, refl, refl, refl)

-- (x + y)/2 and (x + y)/4: the columns are (1/2, 1/4) twice
mixing : Propagator
mixing a r d = let z = add binary64 (cell a 0) (cell a 1) in done (mul binary64 z half ∷ mul binary64 z (fin false 1 (negsuc 1)) ∷ [])

two-states : closed mixing 2 (window plus_zero one) [] bolus (tolerance one one) true ≡ solved (two ∷ one ∷ []) (plus_zero ∷ plus_zero ∷ []) plus_zero
unfolding opened mixing
two-states = refl

-- 1 − x, and no events: the candidate is 1 and its own run ends with 0, that from zero with 1. A scaled residual of just 1 is taken.
turning : Propagator
turning a r d = done (sub binary64 one (cell a 0) ∷ [])

abbrev turned : Float → Float → Timed SteadyState
turned a r = closed turning 1 (window plus_zero one) [] [] (tolerance a r) true

own_residual : (turned one plus_zero ≡ solved (one ∷ []) (neg one ∷ []) one) × (turned half plus_zero ≡ stopped 36 plus_zero)
    × (turned plus_zero plus_zero ≡ stopped 19 plus_zero)
unfolding opened turning
own_residual = (refl, refl, refl)

-- 35 ahead of 36: a scale that overflows, and a difference that does too
scale_first : judged (tolerance most one) (neg most) most plus_zero ≡ stopped 35 plus_zero
unfolding opened
scale_first = refl
