-- 01, "Bench values": the values that are proved of the definitions, from parameters through `new`.
use Rattle.std.specs.Prelude.{◌≡◌, true, false, List, [], ◌∷◌, ℕ, ◌^◌, ◌+◌, ◌-◌, pos, negsuc, Float, Some, None}
use Rattle.std.proofs.Math.Option.{some, none}
use Rattle.std.specs.Float.{fin, binary64}
use Rattle.std.specs.Float.Ieee.{add}
use Rattle.binary64.specs.Doubles.{plus_zero, minus_zero, one, half}
use Rattle.refusal.specs.Result.{Result, refused, done, and_then}
use Rattle.matrix.specs.Matrix.{Matrix, table}
use Rattle.matrix.specs.Exponential.{scheme}
use Rattle.linear_pk_interval.specs.Interval.{entry, propagator}
use Rattle.linear_pk.specs.LinearPk.{new, state_count, advance}
use Rattle.linear_pk.specs.declared.kernel.LinearPk.{LinearPk}
use Rattle.protocol.specs.Prepare.{prepare}
use Rattle.protocol.specs.Execute.{Outcome, go, stop, run_of}
use Rattle.protocol.specs.declared.Event.{Event}
use Rattle.protocol.specs.declared.Event.TheVariants.{Bolus, Infusion, Reset}
use Rattle.protocol.specs.declared.Window.{Window}
use Rattle.simulation.specs.KernelRun.{propagator_of}
use Rattle.cycle.specs.Fold.{period, fold}
use Rattle.cycle.specs.Closed.{Timed, stopped, then, untimed, SteadyState, closed}

-- 2, 3, 4, 5, 6, 8, 10, 16, 20
abbrev pub two : Float
two = fin false 1 (pos 1)

abbrev pub three : Float
three = fin false 3 (pos 0)

abbrev pub four : Float
four = fin false 1 (pos 2)

abbrev pub five : Float
five = fin false 5 (pos 0)

abbrev pub six : Float
six = fin false 3 (pos 1)

abbrev pub eight : Float
eight = fin false 1 (pos 3)

abbrev pub ten : Float
ten = fin false 5 (pos 1)

abbrev pub sixteen : Float
sixteen = fin false 1 (pos 4)

abbrev pub twenty : Float
twenty = fin false 5 (pos 2)

-- the matrix of a kernel's rates
abbrev pub matrix_of : Result LinearPk → Result Matrix
matrix_of r = and_then r (λ k. done (table (state_count k) (entry k.matrix)))

-- one volume of 1 and nothing else but a clearance
abbrev pub single : Float → Result LinearPk
single clearance = new clearance (one ∷ []) [] None

-- an amount of 3 at the rate 2 in the patient of P2
abbrev pub after : Float → Result (List Float)
after duration = and_then (single plus_zero) (λ k. advance scheme k (three ∷ []) (two ∷ []) duration 1)

-- how many halvings a duration of 1 takes
abbrev pub halvings : Float → Result ℕ
halvings clearance = and_then (single clearance) (λ k. and_then (propagator scheme (state_count k) k.matrix one) (λ e. done e.halved))

-- with tolerances 1 and budgets 100
abbrev pub window : Float → Float → Window
window start end = record { start = start; end = end; rtol = one; atol = one; propagations = 100; events = 100; outputs = 100 }

-- the cycle of 0 to 8, folded for one state
abbrev pub folded : List Event → Result (List Event)
folded es = fold 1 (window plus_zero eight) [] es

-- the cycle of P10
abbrev pub rounding : Window
rounding = window (fin true 9 (negsuc 54)) (fin false (2 ^ 53 - 1) (negsuc 52))

-- a bolus of 1 at 8
abbrev pub late : List Event
late = Bolus eight 0 one ∷ []

-- the amounts at the end of a run
abbrev pub ending : Outcome → Result (List Float)
ending (go s) = done s.amounts
ending (stop c t s) = refused c

-- the closed cycle of 0 to 1 of a kernel, with tolerances 1
abbrev pub closed_by : Result LinearPk → List Event → Timed SteadyState
closed_by r es = then (untimed r) (λ k. closed (propagator_of k) (state_count k) (window plus_zero one) [] es (record { absolute = one; relative = one }) true)

pub record BenchValues : Type 0 where
  -- CL 2, V 4 and 8, q 1, k 0.5: rows (−0.5, 0, 0), (0.5, −0.75, 0.125), (0, 0.25, −0.125)
  pub p1 :
      matrix_of (new two (four ∷ eight ∷ []) (one ∷ []) (Some half))
      ≡ done
      ((fin true 1 (negsuc 0) ∷ plus_zero ∷ plus_zero ∷ [])
      ∷ (fin false 1 (negsuc 0) ∷ fin true 3 (negsuc 1) ∷ fin false 1 (negsuc 2) ∷ [])
      ∷ (plus_zero ∷ fin false 1 (negsuc 1) ∷ fin true 1 (negsuc 2) ∷ [])
      ∷ [])
  -- CL 0, V 1, amount 3, rate 2, duration 0.5: 4
  pub p2 : after half ≡ done (four ∷ [])
  -- P2 with duration 0: 3
  pub p3 : after plus_zero ≡ done (three ∷ [])
  -- cycle 0..8, infusion at 6 of 10 over 5: 4 at 6 over 2, 6 at 0 over 3
  pub p4 : folded (Infusion six 0 ten five ∷ []) ≡ done (Infusion six 0 four two ∷ Infusion plus_zero 0 six three ∷ [])
  -- 20 over 20: 16 at 0 over 8, 2 at 6 over 2, 2 at 0 over 2
  pub p5 : folded (Infusion six 0 twenty twenty ∷ []) ≡ done (Infusion plus_zero 0 sixteen eight ∷ Infusion six 0 two two ∷ Infusion plus_zero 0 two two ∷ [])
  -- P4 with a stopping reset at 1: 4 over 2, 2 over 1
  pub p6 :
      folded (Infusion six 0 ten five ∷ Reset one 0 plus_zero 0 true ∷ [])
      ≡ done (Infusion six 0 four two ∷ Infusion plus_zero 0 two one ∷ Reset one 0 plus_zero 0 true ∷ [])
  -- bolus at 8: 16; a plain run takes it
  pub p7 : folded late ≡ refused 16
  pub p7_prepared : prepare 1 (window plus_zero eight) [] late ≡ none
  pub p7_run : and_then (single plus_zero) (λ k. ending (run_of (propagator_of k) 1 (window plus_zero eight) [] late (three ∷ []))) ≡ done (four ∷ [])
  -- CL 2^59, V 1, duration 1: 60 halvings
  pub p8 : halvings (fin false 1 (pos 59)) ≡ done 60
  -- CL 2^59 + 128: 21
  pub p8_more : halvings (fin false (2 ^ 52 + 1) (pos 7)) ≡ refused 21
  -- CL 0, V 1, no doses: 33
  pub p9 : closed_by (single plus_zero) [] ≡ stopped 33 plus_zero
  -- cycle −9·2^−55 to 1−2^−53, infusion at its start over 2: 12, as start + period rounds to 1
  pub p10 : fold 1 rounding [] (Infusion rounding.start 0 one two ∷ []) ≡ refused 12
  pub p10_sum : add binary64 rounding.start (period rounding) ≡ one
  -- resets at −0 and +0, order 1 both: 12, on one target and on two
  pub p11 : prepare 1 (window plus_zero one) [] (Reset minus_zero 0 one 1 false ∷ Reset plus_zero 0 one 1 false ∷ []) ≡ some 12
  pub p11_apart : prepare 2 (window plus_zero one) [] (Reset minus_zero 0 one 1 false ∷ Reset plus_zero 1 one 1 false ∷ []) ≡ some 12
