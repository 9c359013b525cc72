-- Closed cycles over 0 to 1 with a bolus at 0, from parameters through `new`, computed. The bits are those of the Rust; a double is m·2^e with m odd.
use Rattle.std.specs.Prelude.{None}
use mathlib.Core.Path.{◌≡◌, refl}
use mathlib.Core.Bool.{true, false}
use mathlib.Core.List.{List, [], ◌∷◌}
use Prim.Native.Nat.{◌-◌, ◌^◌}
use lib.IntN.{pos, negsuc}
use lib.Ieee.{Float, fin}
use Rattle.binary64.specs.Doubles.{plus_zero, one}
use Rattle.linear_pk.specs.LinearPk.{new}
use Rattle.protocol.specs.declared.Event.{Event}
use Rattle.protocol.specs.declared.Event.TheVariants.{Bolus}
use Rattle.cycle.specs.Closed.{Timed, stopped, got, SteadyState}
use Rattle.theorem_bench_values.specs.BenchValues.{two, single, closed_by}
use Rattle.theorem_bench_values.proofs.Table.{opened}

abbrev dosed : Float → List Event
dosed a = Bolus plus_zero 0 a ∷ []

abbrev solved : List Float → List Float → Float → Timed SteadyState
solved a r m = got (record { amounts = a; residuals = r; maximum = m })

-- CL 1, V 1
one_state : closed_by (single one) (dosed one) ≡ solved (fin false 0x9_4fc6_ceb0_99bd (negsuc 51) ∷ []) (plus_zero ∷ []) plus_zero
unfolding opened
one_state = refl

-- CL 1, V 1 and 2, q 1
two-states : closed_by (new one (one ∷ two ∷ []) (one ∷ []) None) (dosed one)
    ≡ solved (fin false 0x14_ed7e_462d_db35 (negsuc 52) ∷ fin false 0x1e_c7c9_f4c0_a4b5 (negsuc 51) ∷ [])
    (fin true 1 (negsuc 52) ∷ fin true 1 (negsuc 51) ∷ []) (fin false 0x5_78ed_8693_90cd (negsuc 103))
unfolding opened
two-states = refl

-- a bolus of the largest double: with CL 2^−10 the candidate is infinite, with CL 0.75 its run stops at the start
abbrev most : Float
most = fin false (2 ^ 53 - 1) (pos 971)

infinite_candidate : closed_by (single (fin false 1 (negsuc 9))) (dosed most) ≡ stopped 34 plus_zero
unfolding opened
infinite_candidate = refl

run-stops : closed_by (single (fin false 3 (negsuc 1))) (dosed most) ≡ stopped 31 plus_zero
unfolding opened
run-stops = refl
