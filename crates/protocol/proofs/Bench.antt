-- Runs worked out, with an advance that hands the amounts back or adds what runs in: 01's example, P7's plain run, P11, a cut infusion, -0
-- and +0, the stops 3, 30, 31 and 32, and the
-- library's run with its slices. At the end: there is a kernel with the laws, so the claims are not empty. Assumes nothing.
use mathlib.Core.Path.{◌≡◌, refl, subst}
use Prim.Native.Nat.{ℕ, ◌-◌, ◌^◌}
use native.Mathlib.Omega.{arith}
use mathlib.Core.Bool.{Bool, true, false, not}
use mathlib.Core.List.{List, [], ◌∷◌, zip_with}
use mathlib.Core.Option.{some, none}
use lib.IntN.{pos}
use lib.Dec.{T}
use lib.ListN.{replicate}
use lib.Ieee.{Float, fin, nan, binary64, add, sub, neg, mul, div, lt, le, eq, fits}
use Rattle.binary64.specs.Lists.{amounts_pass}
use Rattle.binary64.specs.Doubles.{plus_zero, minus_zero, one, total_le}
use Rattle.binary64.specs.Sort.{sort_by, firsts}
use Rattle.protocol.specs.declared.Event.{Event}
use Rattle.protocol.specs.declared.Event.TheVariants.{Bolus, Infusion, Reset}
use Rattle.protocol.specs.declared.Window.{Window}
use Rattle.refusal.specs.Result.{Result, refused, done}
use Rattle.protocol.specs.Events.{target, is_reset, is_bolus, running, marks}
use Rattle.protocol.specs.Prepare.{prepare}
use Rattle.protocol.specs.Schedule.{flows, infusion_rate, summed}
use Rattle.protocol.specs.Execute.{Propagator, Row, Side, Pre, Post, Reading, Outcome, go, stop, dosed, run_of}
use Rattle.protocol.specs.Entry.{Room, RunReport, simulate, report_of, times_at_exit, sides_at_exit, values_at_exit}
use Rattle.protocol.specs.PlainRun.{advance_numbers, one_of, arguments_pass, Conditions, KernelLaws, Prepared, PlainRun}
use Rattle.protocol.proofs.ListLaws.{both}
use Rattle.protocol.proofs.Theorems.{plain_run}

-- what a run computes through
opened : ℕ
unfolding prepare run_of simulate firsts sort_by total_le lt le eq add sub mul div neg target is_reset is_bolus running marks flows infusion_rate dosed zip_with fits
opened = 0

unfoldable pub still : Propagator
still a r d = done a

-- amount + rate × duration
drift : Propagator
unfolding zip_with
drift a r d = done (zip_with (λ (x y : Float). add binary64 x (mul binary64 y d)) a r)

abbrev two : Float
two = fin false 1 (pos 1)

abbrev three : Float
three = fin false 3 (pos 0)

abbrev four : Float
four = fin false 1 (pos 2)

abbrev eight : Float
eight = fin false 1 (pos 3)

abbrev huge : Float
huge = fin false 1 (pos 53)

-- the largest double
abbrev most : Float
most = fin false (2 ^ 53 - 1) (pos 971)

abbrev window : Float → Float → Window
window s e = record { start = s; end = e; rtol = one; atol = one; propagations = 100; events = 100; outputs = 100 }

abbrev row : Float → Side → Float → Row
row t d a = record { time = t; side = d; amounts = a ∷ [] }

abbrev rows_of : Outcome → List Row
rows_of (go s) = s.rows
rows_of (stop c t s) = []

-- ---- 01's example: the window 0 to 1, amount 3, a bolus of 1 at 0
abbrev example : List Event
example = Bolus plus_zero 0 one ∷ []

example_passes : prepare 1 (window plus_zero one) [] example ≡ none
unfolding opened
example_passes = refl

example_rows : rows_of (run_of still 1 (window plus_zero one) [] example (three ∷ [])) ≡ row plus_zero Pre three ∷ row plus_zero Post four ∷ row one Post four ∷ []
unfolding opened still
example_rows = refl

-- ---- P7: a plain run over 0 to 8 takes a bolus at 8
pub bolus_at_end_passes : prepare 1 (window plus_zero eight) [] (Bolus eight 0 one ∷ []) ≡ none
unfolding opened
bolus_at_end_passes = refl

pub bolus_at_end : rows_of (run_of still 1 (window plus_zero eight) [] (Bolus eight 0 one ∷ []) (three ∷ []))
    ≡ row plus_zero Post three ∷ row eight Pre three ∷ row eight Post four ∷ []
unfolding opened still
bolus_at_end = refl

-- ---- P11: resets at -0 and +0, order 1 both, on one target or on two
pub one-order : (prepare 1 (window plus_zero one) [] (Reset minus_zero 0 one 1 false ∷ Reset plus_zero 0 two 1 false ∷ []) ≡ some 12)
    × (prepare 2 (window plus_zero one) [] (Reset minus_zero 0 one 1 false ∷ Reset plus_zero 1 two 1 false ∷ []) ≡ some 12)
unfolding opened
one-order = (refl, refl)

-- of different order they go by order, and the rows' time is -0; the samples there have no row
by_order : rows_of (run_of still 1 (window plus_zero one) (plus_zero ∷ minus_zero ∷ []) (Reset plus_zero 0 one 1 false
    ∷ Reset minus_zero 0 two 0 false ∷ []) (three ∷ []))
    ≡ row minus_zero Pre three ∷ row minus_zero Post one ∷ row one Post one ∷ []
unfolding opened still
by_order = refl

-- ---- an infusion of 4 over 4 from 0, reset to 1 and stopped at 2, read once at 1: its end at 4 still has two rows
cut_infusion : rows_of (run_of drift 1 (window plus_zero four) (one ∷ one ∷ []) (Infusion plus_zero 0 four four ∷ Reset two 0 one 0 true ∷ []) (three ∷ []))
    ≡ row plus_zero Pre three ∷ row plus_zero Post three ∷ row one Reading four ∷ row two Pre (fin false 5 (pos 0)) ∷ row two Post one
    ∷ row four Pre one ∷ row four Post one ∷ []
unfolding opened drift
cut_infusion = refl

-- rates of 2^53, 1 and 1 add to 2^53 in list order, and from the end they would add to 2^53 + 2
in_list_order : summed 1 plus_zero (Infusion plus_zero 0 huge one ∷ Infusion plus_zero 0 one one ∷ Infusion plus_zero 0 one one ∷ [])
    (false ∷ false ∷ false ∷ []) ≡ huge ∷ []
unfolding opened summed
in_list_order = refl

-- a stopping reset at an infusion's own instant leaves it running, and so does one on another target
still_running : rows_of (run_of drift 2 (window plus_zero two) [] (Infusion plus_zero 0 two two ∷ Reset plus_zero 0 one 0 true
    ∷ Reset one 1 one 0 true ∷ []) (three ∷ three ∷ []))
    ≡ record { time = plus_zero; side = Pre; amounts = three ∷ three ∷ [] } ∷ record { time = plus_zero; side = Post; amounts = one ∷ three ∷ [] }
    ∷ record { time = one; side = Pre; amounts = two ∷ three ∷ [] } ∷ record { time = one; side = Post; amounts = two ∷ one ∷ [] }
    ∷ record { time = two; side = Pre; amounts = three ∷ one ∷ [] } ∷ record { time = two; side = Post; amounts = three ∷ one ∷ [] } ∷ []
unfolding opened drift
still_running = refl

-- a reset goes ahead of a bolus at its time, whatever their order in the list
reset_first : rows_of (run_of still 1 (window plus_zero one) [] (Bolus plus_zero 0 one ∷ Reset plus_zero 0 two 0 false ∷ []) (one ∷ []))
    ≡ row plus_zero Pre one ∷ row plus_zero Post three ∷ row one Post three ∷ []
unfolding opened still
reset_first = refl

-- an infusion of 1 over 1 from 0: nothing runs in behind its end
infusion_ends : rows_of (run_of drift 1 (window plus_zero two) [] (Infusion plus_zero 0 one one ∷ []) (three ∷ []))
    ≡ row plus_zero Pre three ∷ row plus_zero Post three ∷ row one Pre four ∷ row one Post four ∷ row two Post four ∷ []
unfolding opened drift
infusion_ends = refl

-- ---- stops, as the library replies
abbrev replied : Outcome → RunReport
replied o = report_of (done o)

abbrev stopped : ℕ → Float → ℕ → RunReport
stopped c t k = record { number = c; time = t; rows = 0; advances = k }

-- a propagation budget of 0: 30 at the first row, and that advance counts
over_budget : replied (run_of still 1 (record { start = plus_zero; end = one; rtol = one; atol = one; propagations = 0; events = 100; outputs = 100 }) [] example (three ∷ [])) ≡ stopped 30 one 1
unfolding opened still
over_budget = refl

-- refuses with 3, or hands the amounts back
abbrev guarded : Bool → List Float → Result (List Float)
guarded true a = done a
guarded false a = refused 3

keeper : ℕ → Propagator
keeper n a r d = guarded (arguments_pass n a r d) a

-- from -MAX to MAX with a sample at 0, which is no cycle: 3 with the row's time, and that advance counts
no_cycle : replied (run_of (keeper 1) 1 (window (neg most) most) (plus_zero ∷ []) [] (three ∷ [])) ≡ stopped 3 most 2
unfolding opened keeper
no_cycle = refl

-- a reset below 0 at -0: 31 with the boundary's time, and no advance
below-zero : replied (run_of still 1 (window plus_zero one) [] (Reset minus_zero 0 (neg one) 0 false ∷ []) (three ∷ [])) ≡ stopped 31 minus_zero 0
unfolding opened still
below-zero = refl

-- rates that add up to no finite double: 32 with time +0
too_fast : replied (run_of still 1 (window plus_zero one) [] (Infusion plus_zero 0 most one ∷ Infusion plus_zero 0 most one ∷ []) (three ∷ []))
    ≡ stopped 32 plus_zero 0
unfolding opened still
too_fast = refl

-- ---- the library's run: 7 cells a slice where 6 rows are reckoned
abbrev room : ℕ → Room
room k = record { times = k; sides = k; values = k }

abbrev run_example : Result Outcome
run_example = simulate still none 1 (window plus_zero one) [] example (three ∷ []) (room 7)

example_reply : report_of run_example ≡ record { number = 0; time = plus_zero; rows = 3; advances = 1 }
unfolding opened still
example_reply = refl

example_times : times_at_exit 6 run_example (replicate 7 two) ≡ plus_zero ∷ plus_zero ∷ one ∷ plus_zero ∷ plus_zero ∷ plus_zero ∷ two ∷ []
unfolding opened still
example_times = refl

example_sides : sides_at_exit 6 run_example (replicate 7 9) ≡ 1 ∷ 2 ∷ 2 ∷ 0 ∷ 0 ∷ 0 ∷ 9 ∷ []
unfolding opened still
example_sides = refl

example_values : values_at_exit 6 1 run_example (replicate 7 two) ≡ three ∷ four ∷ four ∷ plus_zero ∷ plus_zero ∷ plus_zero ∷ two ∷ []
unfolding opened still
example_values = refl

-- a stopped run leaves the reckoned cells zero
stopped-values : values_at_exit 6 1 (simulate still none 1 (window plus_zero one) [] (Reset plus_zero 0 (neg one) 0 false ∷ []) (three ∷ [])
    (room 7)) (replicate 7 two)
    ≡ plus_zero ∷ plus_zero ∷ plus_zero ∷ plus_zero ∷ plus_zero ∷ plus_zero ∷ two ∷ []
unfolding opened still
stopped-values = refl

-- two equal samples make 3 rows and reckon 4: slices of 3 cells are too short
short_slices : simulate still none 1 (window plus_zero two) (one ∷ one ∷ []) [] (three ∷ []) (room 3) ≡ refused 4
unfolding opened
short_slices = refl

-- 5 is ahead of the kernel's number, that ahead of 3, and 3 ahead of 13
order_of_tests : (simulate still (some 2) 1 (window plus_zero one) (replicate 257 one) [] (nan ∷ []) (room 0) ≡ refused 5)
    × (simulate still (some 2) 1 (window plus_zero one) [] [] (nan ∷ []) (room 0) ≡ refused 2)
    × (simulate still none 1 (window plus_zero one) [] (replicate 101 (Bolus plus_zero 0 one)) (nan ∷ []) (room 0) ≡ refused 3)
    × (simulate still none 1 (window plus_zero plus_zero) [] (replicate 101 (Bolus plus_zero 0 one)) (one ∷ []) (room 0) ≡ refused 13)
unfolding opened
order_of_tests = (refl, refl, refl, refl)

-- ---- a kernel with the laws
zero_one : ◌≡◌ {A = ℕ} 0 1 → ⊥
zero_one z = omega arith

-- with arguments that pass it refuses nothing
abbrev never : Conditions
never c a r d = ⊥

keeper_laws : (n : ℕ) → KernelLaws n (keeper n) never
unfolding keeper
keeper_laws n =
    record {
      three = λ a r d. (to a r d, fro a r d);
      numbers = numbers;
      amounts = amounts;
      conditions = λ a r d h _ c. (
        takes a r d h c,
        λ x. absurd x,
      );
    }
  where
    to : (a r : List Float) (d : Float) → keeper n a r d ≡ refused 3 → T (not (arguments_pass n a r d))
    to a r d e = on (arguments_pass n a r d) e
      where
        on : (b : Bool) → guarded b a ≡ refused 3 → T (not b)
        on true q = let z : ◌≡◌ {A = ℕ} 0 1 = cc in zero_one z
        on false q = tt

    fro : (a r : List Float) (d : Float) → T (not (arguments_pass n a r d)) → keeper n a r d ≡ refused 3
    fro a r d h = on (arguments_pass n a r d) h
      where
        on : (b : Bool) → T (not b) → guarded b a ≡ refused 3
        on true q = absurd q
        on false q = refl

    numbers : (a r : List Float) (d : Float) (c : ℕ) → keeper n a r d ≡ refused c → T (one_of c (3 ∷ advance_numbers))
    numbers a r d c e = on (arguments_pass n a r d) e
      where
        on : (b : Bool) → guarded b a ≡ refused c → T (one_of c (3 ∷ advance_numbers))
        on true q = let z : ◌≡◌ {A = ℕ} 0 1 = cc in absurd (zero_one z)
        on false q = subst (λ (x : ℕ). T (one_of x (3 ∷ advance_numbers))) (let p : 3 ≡ c = cc in p) tt

    amounts : (a r : List Float) (d : Float) (v : List Float) → keeper n a r d ≡ done v → T (amounts_pass n v)
    amounts a r d v e = on (arguments_pass n a r d) (λ h. (both (amounts_pass n a) _ h).0) e
      where
        on : (b : Bool) → (T b → T (amounts_pass n a)) → guarded b a ≡ done v → T (amounts_pass n v)
        on true h q = subst (λ (x : List Float). T (amounts_pass n x)) (let p : a ≡ v = cc in p) (h tt)
        on false h q = let z : ◌≡◌ {A = ℕ} 0 1 = cc in absurd (zero_one z)

    takes : (a r : List Float) (d : Float) → T (arguments_pass n a r d) → (c : ℕ) → keeper n a r d ≡ refused c → ⊥
    takes a r d h c e = on (arguments_pass n a r d) h e
      where
        on : (b : Bool) → T b → guarded b a ≡ refused c → ⊥
        on true h q = let z : ◌≡◌ {A = ℕ} 0 1 = cc in zero_one z
        on false h q = h

-- and the example is a list that passes
example_given : Prepared 1 (window plus_zero one) [] example
unfolding fits
example_given = record { start_fits = tt; end_fits = tt; samples_fit = tt; times_fit = tt; passes = example_passes }

example_run : PlainRun (keeper 1) never 1 (window plus_zero one) [] example (three ∷ [])
unfolding lt
example_run = plain_run 1 (keeper 1) never (keeper_laws 1) (window plus_zero one) [] example example_given (three ∷ []) tt
