-- Demand 3's claim about a closed cycle: `closed-cycle`. Assumes nothing.
use mathlib.Core.Path.{◌≡◌, refl, sym, ap, ap₂, ◌∙◌, subst}
use Prim.Native.Nat.{ℕ, zero, suc, ◌-◌}
use mathlib.Core.Bool.{Bool, true, false, not}
use mathlib.Core.List.{List, [], ◌∷◌}
use mathlib.Core.Logic.{◌↔◌}
use borrow.Author.Tests.{eq-eqb}
use lib.Dec.{T}
use lib.ListN.{length, set, replicate, length-set, length-replicate}
use lib.Ieee.{Float, lt}
use Rattle.binary64.specs.Doubles.{plus_zero, one, nonnegative}
use Rattle.binary64.specs.Lists.{all, amounts_pass}
use Rattle.refusal.specs.Result.{done}
use Rattle.matrix.specs.Matrix.{at}
use Rattle.protocol.specs.declared.Event.{Event}
use Rattle.protocol.specs.declared.Window.{Window}
use Rattle.protocol.specs.Execute.{Propagator, State, Outcome, go, stop, run_of}
use Rattle.protocol.specs.PlainRun.{stop_numbers, Conditions, KernelLaws, Prepared, Cycle, Reached}
use Rattle.protocol.proofs.ListLaws.{both, and_T}
use Rattle.protocol.proofs.Conditions.{stop-numbers}
use Rattle.protocol.proofs.Theorems.{plain_run}
use Rattle.cycle.specs.declared.SteadyStateTolerance.{SteadyStateTolerance}
use Rattle.cycle.specs.Elimination.{System, system_of, least_pivot, pivot_of, pivot_passes, exchanged, reduced, eliminate_column, eliminate_to, solve_to, solve}
use Rattle.cycle.specs.Closed.{Timed, stopped, got, then, tolerance_passes, divided, ready, homogeneous, last_post, end_of, unit}
use Rattle.cycle.specs.Closed.{last_of, columns_to, solution, candidate_of, checked_maximum_to, residuals_of, SteadyState, accepted}
use Rattle.cycle.specs.Closed.{closed}
use Rattle.cycle.specs.ClosedCycle.{TimesFit, closed_numbers, Yields, Accepts, Rejects, candidate_fails, run-stops, state_fails}
use Rattle.cycle.specs.ClosedCycle.{maximum_to, CandidateAnswer, EveryClosedCycle}
use Rattle.cycle.proofs.Results.{Gives, gives_then, gives_last, Hands, hands_then, hands_test, hands_map, hands_self, hands_got}
use Rattle.cycle.proofs.Results.{hands_number, no_answer, same_answer, same-refusal, hands_untimed, among, test_passes, test_fails}
use Rattle.cycle.proofs.InnerRuns.{Ready, ready_hands, Inner, ready_inner, run_leaves}
use Rattle.cycle.proofs.Candidates.{solution-yields, yields-solution, candidate-yields, yields-candidate}
use Rattle.cycle.proofs.Residuals.{Greatest, greatest_hands, small_greatest, fails_greatest, greatest_fails}

-- ---- the amounts that runs start from
set-nonnegative : (xs : List Float) (i : ℕ) (x : Float) → T (all nonnegative xs) → T (nonnegative x) → T (all nonnegative (set xs i x))
set-nonnegative [] i x h k = tt
set-nonnegative (y ∷ ys) zero x h k = and_T (nonnegative x) (all nonnegative ys) k (both (nonnegative y) (all nonnegative ys) h).1
set-nonnegative (y ∷ ys) (suc i) x h k = let p = both (nonnegative y) (all nonnegative ys) h in and_T (nonnegative y)
    (all nonnegative (set ys i x)) p.0 (set-nonnegative ys i x p.1 k)

zeros_nonnegative : (n : ℕ) → T (all nonnegative (replicate n plus_zero))
unfolding lt
zeros_nonnegative zero = tt
zeros_nonnegative (suc n) = zeros_nonnegative n

amounts_pass_lem : (n : ℕ) (xs : List Float) → length xs ≡ n → T (all nonnegative xs) → T (amounts_pass n xs)
amounts_pass_lem n xs e h = rw (eq-eqb (length xs) n e) h

zeros_pass : (n : ℕ) → T (amounts_pass n (replicate n plus_zero))
zeros_pass n = amounts_pass_lem n (replicate n plus_zero) (length-replicate n plus_zero) (zeros_nonnegative n)

unit_pass : (n j : ℕ) → T (amounts_pass n (unit n j))
unfolding unit lt
unit_pass n j =
    amounts_pass_lem n (unit n j) (length-set (replicate n plus_zero) j one ∙ length-replicate n plus_zero)
    (set-nonnegative (replicate n plus_zero) j one (zeros_nonnegative n) tt)

-- ---- elimination: 33, or n amounts
abbrev Sized : ℕ → List Float → Type 0
Sized n c = length c ≡ n

pub solve_sized : (n : ℕ) (s : System) (d : ℕ) → length (solve_to n s d) ≡ n
unfolding solve_to
solve_sized n s zero = length-replicate n plus_zero
solve_sized n s (suc d) = length-set (solve_to n s d) (n - suc d) _ ∙ solve_sized n s d

eliminate_gives : (n : ℕ) (least : Float) (s : System) (k : ℕ) → Gives (33 ∷ []) (λ (_ : System). Unit {0}) (eliminate_to n least s k)
unfolding eliminate_to eliminate_column
eliminate_gives n least s zero = tt
eliminate_gives n least s (suc k) =
    gives_then (33 ∷ []) (λ (_ : System). Unit {0}) (λ (_ : System). Unit {0}) (eliminate_to n least s k) (eliminate_column n least k)
    (eliminate_gives n least s k)
    (λ t _. let p = pivot_of n t.matrix k in gives_last (33 ∷ []) (λ (_ : System). Unit {0}) (pivot_passes least (at t.matrix p k)) 33
    (reduced n k (exchanged k p t)) tt (λ _. tt))

solve_gives : (n : ℕ) (s : System) → Gives (33 ∷ []) (Sized n) (solve n s)
unfolding solve
solve_gives n s =
    gives_then (33 ∷ []) (Sized n) (λ (_ : System). Unit {0}) (eliminate_to n (least_pivot n s.matrix) s n) (λ t. done (solve_to n t n))
    (eliminate_gives n (least_pivot n s.matrix) s n)
    (λ t _. solve_sized n t n)

-- ---- an inner run, and the answer for a candidate whose run ends with e
abbrev answer_of : ℕ → List Float → List Float → Float → SteadyState
answer_of n c e m = record { amounts = c; residuals = residuals_of n c e; maximum = m }

record Ends (advance : Propagator) (n : ℕ) (w : Window) (fs : List Event) (a e : List Float) : Type 0 where
  left : State
  ran : run_of advance n (divided n w) [] fs a ≡ go left
  last : last_post [] left.rows ≡ e

module _ (n : ℕ) (advance : Propagator) {Refuses : Conditions} (laws : KernelLaws n advance Refuses) (w : Window) where
  run_hands : (fs : List Event) → Prepared n (divided n w) [] fs → Cycle (divided n w) → (a : List Float) → T (amounts_pass n a)
      → Hands closed_numbers (Ends advance n w fs a) (last_of advance n w fs a)
  unfolding last_of
  run_hands fs p k a h = on (run_of advance n (divided n w) [] fs a) refl
    where
      on : (o : Outcome) → run_of advance n (divided n w) [] fs a ≡ o → Hands closed_numbers (Ends advance n w fs a) (end_of o)
      on (go z) e = record { left = z; ran = e; last = refl }
      on (stop c t z) e = among c stop_numbers closed_numbers tt (stop-numbers n advance laws (divided n w) [] fs p a h k c t z e)

  module _ (es fs : List Event) (i : Inner n w es fs) where
    abbrev Any : List (List Float) → Type 0
    Any cs = Unit {0}

    columns_hands : (k : ℕ) → Hands closed_numbers Any (columns_to advance n w fs k)
    unfolding columns_to
    columns_hands zero = tt
    columns_hands (suc k) =
        hands_then closed_numbers Any Any (columns_to advance n w fs k) _ (columns_hands k)
        (λ cs _. hands_then closed_numbers Any (Ends advance n w (homogeneous fs) (unit n k)) (last_of advance n w (homogeneous fs) (unit n k)) _
        (run_hands (homogeneous fs) i.zeroed-prepared i.cycle (unit n k) (unit_pass n k)) (λ c _. tt))

    solution_hands : Hands closed_numbers (Sized n) (solution advance n w fs)
    unfolding solution
    solution_hands =
        hands_then closed_numbers (Sized n) (Ends advance n w fs (replicate n plus_zero)) (last_of advance n w fs (replicate n plus_zero)) _
        (run_hands fs i.prepared i.cycle (replicate n plus_zero) (zeros_pass n))
        (λ b _. hands_then closed_numbers (Sized n) Any (columns_to advance n w fs n) _ (columns_hands n)
        (λ cs _. hands_untimed (33 ∷ []) closed_numbers (Sized n) (solve n (system_of n cs b)) tt (solve_gives n (system_of n cs b))))

    -- ---- the candidate: accepted, with its answer
    abbrev Accepted : SteadyStateTolerance → List Float → SteadyState → Type 0
    Accepted tol c s = (a : Accepts advance n w tol fs c) × CandidateAnswer n tol c (last_post [] a.left.rows) s

    accepted_hands : (tol : SteadyStateTolerance) (c : List Float) → Sized n c → Hands closed_numbers (Accepted tol c) (accepted advance n w tol fs c)
    unfolding accepted
    accepted_hands tol c l =
        hands_test closed_numbers (Accepted tol c) (all nonnegative c) 34 c _ tt
        (λ f. hands_then closed_numbers (Accepted tol c) (Ends advance n w fs c) (last_of advance n w fs c) _
        (run_hands fs i.prepared i.cycle c (amounts_pass_lem n c l f))
        (λ e h. hands_then closed_numbers (Accepted tol c) (Greatest tol c e n) (checked_maximum_to tol c e n) _ (greatest_hands tol c e n) (on f e h)))
      where
        on : T (all nonnegative c) → (e : List Float) → Ends advance n w fs c e → (m : Float) → Greatest tol c e n m → Accepted tol c (answer_of n c e m)
        on f e h = subst (λ (e : List Float). (m : Float) → Greatest tol c e n m → Accepted tol c (answer_of n c e m)) h.last
            (λ m g. (
              record { passes = f; left = h.left; reaches = h.ran; scales = λ j l. (g.0 j l).scale; residuals = λ j l. (g.0 j l).residual },
              record { amounts = refl; residuals = refl; maximum = g.1 },
            ))

-- ---- the conditions suffice
module _ (advance : Propagator) (n : ℕ) (w : Window) (tol : SteadyStateTolerance) (fs : List Event) (c : List Float)
    (ok : T (tolerance_passes tol)) (h : Accepts advance n w tol fs c) where
  abbrev end : List Float
  end = last_post [] h.left.rows

  accepts-accepted : accepted advance n w tol fs c ≡ got (answer_of n c end (maximum_to tol c end n))
  unfolding accepted last_of
  accepts-accepted =
      ap (λ (r : Timed (List Float)). then r (λ a. then (last_of advance n w fs a) (λ e. then (checked_maximum_to tol a e n)
      (λ m. got (answer_of n a e m))))) (test_passes (all nonnegative c) 34 c h.passes)
      ∙ ap (λ (o : Outcome). then (end_of o) (λ e. then (checked_maximum_to tol c e n) (λ m. got (answer_of n c e m)))) h.reaches
      ∙ ap (λ (r : Timed Float). then r (λ m. got (answer_of n c end m))) (small_greatest tol c end n ok
      (λ i l. record { scale = h.scales i l; residual = h.residuals i l }))

-- ---- and else the first test that fails refuses
module _ (advance : Propagator) (n : ℕ) (w : Window) (tol : SteadyStateTolerance) (fs : List Event) (c : List Float) (ok : T (tolerance_passes tol)) where
  -- behind the candidate's run, and behind the test of the candidate
  abbrev judging : Outcome → Timed SteadyState
  judging o = then (end_of o) (λ e. then (checked_maximum_to tol c e n) (λ m. got (answer_of n c e m)))

  running : T (all nonnegative c) → accepted advance n w tol fs c ≡ judging (run_of advance n (divided n w) [] fs c)
  unfolding accepted last_of
  running h =
      ap (λ (r : Timed (List Float)). then r (λ a. then (last_of advance n w fs a) (λ e. then (checked_maximum_to tol a e n)
      (λ m. got (answer_of n a e m))))) (test_passes (all nonnegative c) 34 c h)

  failing : T (not (all nonnegative c)) → accepted advance n w tol fs c ≡ stopped 34 plus_zero
  unfolding accepted
  failing h =
      ap (λ (r : Timed (List Float)). then r (λ a. then (last_of advance n w fs a) (λ e. then (checked_maximum_to tol a e n)
      (λ m. got (answer_of n a e m))))) (test_fails (all nonnegative c) 34 c h)

  accepted-rejects : (m : ℕ) (t : Float) → accepted advance n w tol fs c ≡ stopped m t → Rejects advance n w tol fs c m t
  accepted-rejects m t q = on (all nonnegative c) (λ b. b) (λ b. b)
    where
      is : {k : ℕ} {u : Float} → ◌≡◌ {A = Timed SteadyState} (stopped k u) (stopped m t) → Rejects advance n w tol fs c k u → Rejects advance n w tol fs c m t
      is {u = u} p h = let e = same-refusal p in subst (Rejects advance n w tol fs c m) e.1 (subst (λ (k : ℕ). Rejects advance n w tol fs c k u) e.0 h)

      greatest : (e : List Float) (r : Timed Float) → then r (λ m. got (answer_of n c e m)) ≡ stopped m t → r ≡ stopped m t
      greatest e (stopped k u) p = let e = same-refusal p in ap₂ stopped e.0 e.1
      greatest e (got g) p = absurd (no_answer (sym p))

      ran : T (all nonnegative c) → (o : Outcome) → run_of advance n (divided n w) [] fs c ≡ o → judging o ≡ stopped m t → Rejects advance n w tol fs c m t
      ran h (stop k u z) e p = is p (run-stops h e)
      ran h (go z) e p =
          let f = greatest_fails tol c (last_post [] z.rows) n m t ok (greatest (last_post [] z.rows)
          (checked_maximum_to tol c (last_post [] z.rows) n) p) in
          subst (Rejects advance n w tol fs c m) (sym f.1) (state_fails h e f.0)

      on : (b : Bool) → (T b → T (all nonnegative c)) → (T (not b) → T (not (all nonnegative c))) → Rejects advance n w tol fs c m t
      on true f g = ran (f tt) (run_of advance n (divided n w) [] fs c) refl (sym (running (f tt)) ∙ q)
      on false f g = is (sym (failing (g tt)) ∙ q) (candidate_fails (g tt))

  rejects-accepted : {m : ℕ} {t : Float} → Rejects advance n w tol fs c m t → accepted advance n w tol fs c ≡ stopped m t
  rejects-accepted (candidate_fails h) = failing h
  rejects-accepted (run-stops h e) = running h ∙ ap judging e
  rejects-accepted (state_fails {m = m} {z = z} h e f) =
      let end = last_post [] z.rows in
      running h ∙ ap judging e ∙ ap (λ (r : Timed Float). then r (λ g. got (answer_of n c end g))) (fails_greatest tol c end n m ok f)

-- ---- the whole
module _ (n : ℕ) (advance : Propagator) {Refuses : Conditions} (laws : KernelLaws n advance Refuses) (w : Window) (ss : List Float)
    (es : List Event) (tol : SteadyStateTolerance) (fit : TimesFit w es) where
  abbrev whole : Timed SteadyState
  whole = closed advance n w ss es tol true

  -- an answer's amounts are a candidate
  abbrev Closes : SteadyState → Type 0
  Closes s = Yields advance n w ss es tol s.amounts

  closed_hands : Hands closed_numbers Closes whole
  unfolding closed
  closed_hands =
      hands_then closed_numbers Closes (λ (fs : List Event). (ready n w ss es tol ≡ got fs) × Ready n w es tol fs) (ready n w ss es tol) _
      (hands_self closed_numbers (Ready n w es tol) (ready n w ss es tol) (ready_hands n w ss es tol))
      (λ fs q. let i = ready_inner n w ss es tol fs fit q.0 in
      hands_then closed_numbers Closes (λ (c : List Float). (solution advance n w fs ≡ got c) × Sized n c) (solution advance n w fs)
      (accepted advance n w tol fs)
      (hands_self closed_numbers (Sized n) (solution advance n w fs) (solution_hands n advance laws w es fs i))
      (λ c g. hands_map closed_numbers (Accepted n advance laws w es fs i tol c) Closes (accepted advance n w tol fs c)
      (λ s h. subst (Yields advance n w ss es tol) (sym h.1.amounts) (solution-yields advance n w ss es tol c fs q.0 g.0))
      (accepted_hands n advance laws w es fs i tol c g.1)))

  -- behind the candidate
  module _ (c : List Float) (y : Yields advance n w ss es tol c) where
    at_hand : Ready n w es tol y.folded
    at_hand = hands_got closed_numbers (Ready n w es tol) (ready n w ss es tol) y.folded (ready_hands n w ss es tol) y.prepared

    inner : Inner n w es y.folded
    inner = ready_inner n w ss es tol y.folded fit y.prepared

    sized : Sized n c
    sized =
        hands_got closed_numbers (Sized n) (solution advance n w y.folded) c (solution_hands n advance laws w es y.folded inner)
        (yields-solution advance n w ss es tol c y)

    closed_is : whole ≡ accepted advance n w tol y.folded c
    unfolding closed
    closed_is =
        ap (λ (r : Timed (List Event)). then r (λ fs. then (solution advance n w fs) (accepted advance n w tol fs))) y.prepared
        ∙ ap (λ (r : Timed (List Float)). then r (accepted advance n w tol y.folded)) (yields-solution advance n w ss es tol c y)

    to : (s : SteadyState) × (whole ≡ got s) → Accepts advance n w tol y.folded c
    to (s, q) = (hands_got closed_numbers (Accepted n advance laws w es y.folded inner tol c) (accepted advance n w tol y.folded c) s
        (accepted_hands n advance laws w es y.folded inner tol c sized) (sym closed_is ∙ q)).0

    fro : (a : Accepts advance n w tol y.folded c) → whole
        ≡ got (answer_of n c (last_post [] a.left.rows) (maximum_to tol c (last_post [] a.left.rows) n))
    fro a = closed_is ∙ accepts-accepted advance n w tol y.folded c at_hand.tolerance a

    rejected : (m : ℕ) (t : Float) → (whole ≡ stopped m t) ↔ Rejects advance n w tol y.folded c m t
    rejected m t = (
      (λ q. accepted-rejects advance n w tol y.folded c at_hand.tolerance m t (sym closed_is ∙ q)),
      λ h. closed_is ∙ rejects-accepted advance n w tol y.folded c at_hand.tolerance h,
    )

    answers : (a : Accepts advance n w tol y.folded c) (s : SteadyState) → whole ≡ got s → CandidateAnswer n tol c (last_post [] a.left.rows) s
    answers a s q = let e =
        same_answer (sym q ∙ fro a) in record {
          amounts = ap (λ (x : SteadyState). x.amounts) e;
          residuals = ap
              (λ (x : SteadyState). x.residuals) e;
          maximum = ap (λ (x : SteadyState). x.maximum) e;
        }

    ends : (a : Accepts advance n w tol y.folded c) → Reached n (divided n w) [] y.folded a.left × (last_post [] a.left.rows ≡ a.left.amounts)
    ends a = (
      (plain_run n advance Refuses laws (divided n w) [] y.folded inner.prepared c (amounts_pass_lem n c sized a.passes)).reached a.left a.reaches,
      run_leaves advance n (divided n w) [] y.folded c a.left inner.prepared a.reaches,
    )

  refuses : (c : ℕ) (t : Float) → candidate_of advance n w ss es tol ≡ stopped c t → whole ≡ stopped c t
  unfolding candidate_of closed
  refuses c t = on (ready n w ss es tol)
    where
      on : (r : Timed (List Event)) → then r (solution advance n w) ≡ stopped c t
          → then r (λ fs. then (solution advance n w fs) (accepted advance n w tol fs)) ≡ stopped c t
      on (stopped k u) q = cc
      on (got fs) q = ap (λ (r : Timed (List Float)). then r (accepted advance n w tol fs)) q

pub closed-cycle : EveryClosedCycle
closed-cycle n advance Refuses laws w ss es tol fit = record {
  numbers =
      λ c t q. hands_number closed_numbers (Closes n advance laws w ss es tol fit) (closed advance n w ss es tol true) c t
      (closed_hands n advance laws w ss es tol fit) q;
  yields = λ c. (candidate-yields advance n w ss es tol c, yields-candidate advance n w ss es tol c);
  accepts = λ c y. (to n advance laws w ss es tol fit c y, λ a. (_, fro n advance laws w ss es tol fit c y a));
  rejects = rejected n advance laws w ss es tol fit;
  answer = answers n advance laws w ss es tol fit;
  needs =
      λ s q. hands_got closed_numbers (Closes n advance laws w ss es tol fit) (closed advance n w ss es tol true) s
      (closed_hands n advance laws w ss es tol fit) q;
  refuses = refuses n advance laws w ss es tol fit;
  ends = ends n advance laws w ss es tol fit;
}
