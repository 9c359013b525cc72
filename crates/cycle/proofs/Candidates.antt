-- The candidate, part by part: the run from zero, the columns of the unit amounts, elimination. Assumes nothing.
use mathlib.Core.Path.{◌≡◌, refl, sym, ap, ◌∙◌, subst}
use Prim.Native.Nat.{ℕ, zero, suc, ◌+◌, ◌≤◌, ◌<◌}
use native.Mathlib.Nat.{le_of_suc-le-suc, le_of_eq, le_refl, eq-or-lt_of_le}
use native.Mathlib.Omega.{arith}
use mathlib.Core.List.{List, [], ◌∷◌, ◌++◌}
use mathlib.Core.Logic.{◌⊎◌, inl, inr}
use lib.ListN.{length, get_or, take, replicate, length-append, get_or-append}
use lib.Seq.{take-suc, take_all, get_or_at}
use lib.Ieee.{Float}
use Rattle.binary64.specs.Doubles.{plus_zero}
use Rattle.protocol.specs.declared.Event.{Event}
use Rattle.protocol.specs.declared.Window.{Window}
use Rattle.protocol.specs.Execute.{Propagator}
use Rattle.cycle.specs.declared.SteadyStateTolerance.{SteadyStateTolerance}
use Rattle.cycle.specs.Elimination.{system_of, solve}
use Rattle.cycle.specs.Closed.{Timed, got, then, untimed, ready, homogeneous, unit, last_of, columns_to, solution, candidate_of}
use Rattle.cycle.specs.ClosedCycle.{Yields}
use Rattle.cycle.proofs.Results.{then-got, untimed-got, same_answer}

module _ (advance : Propagator) (n : ℕ) (w : Window) (fs : List Event) where
  abbrev pub FromUnits : ℕ → List (List Float) → Type 0
  FromUnits k cs = (j : ℕ) → j < k → last_of advance n w (homogeneous fs) (unit n j) ≡ got (get_or cs j [])

  pub columns_units : (k : ℕ) (cs : List (List Float)) → columns_to advance n w fs k ≡ got cs → (length cs ≡ k) × FromUnits k cs
  unfolding columns_to
  columns_units zero cs q = (ap length (sym (same_answer q)), λ (j : ℕ) (l : j < 0). absurd (no j l))
    where
      no : (j : ℕ) → j < 0 → ⊥
      no j l = omega arith
  columns_units (suc k) cs q =
      let p = then-got (columns_to advance n w fs k) (λ cs. then (last_of advance n w (homogeneous fs) (unit n k)) (λ c. got (cs ++ (c ∷ [])))) cs q in
      let r = then-got (last_of advance n w (homogeneous fs) (unit n k)) (λ c. got (p.0 ++ (c ∷ []))) cs p.2 in
      let h = columns_units k p.0 p.1 in
      subst (λ (x : List (List Float)). (length x ≡ suc k) × FromUnits (suc k) x) (same_answer r.2) (
        length-append p.0 (r.0 ∷ []) ∙ more (length p.0) k h.0,
        λ (j : ℕ) (l : j < suc k). on p.0 r.0 h.0 h.1 r.1 j (eq-or-lt_of_le (le_of_suc-le-suc l)),
      )
    where
      more : (a b : ℕ) → a ≡ b → a + 1 ≡ suc b
      more a b e = omega arith

      on : (xs : List (List Float)) (c : List Float) → length xs ≡ k → FromUnits k xs
          → last_of advance n w (homogeneous fs) (unit n k) ≡ got c → (j : ℕ) → (j ≡ k) ⊎ (j < k)
          → last_of advance n w (homogeneous fs) (unit n j) ≡ got (get_or (xs ++ (c ∷ [])) j [])
      on xs c e h g j (inl i) = ap (λ (x : ℕ). last_of advance n w (homogeneous fs) (unit n x)) i ∙ g ∙ ap got (sym (get_or_at xs c [] [] j (e ∙ sym i)))
      on xs c e h g j (inr l) = h j l ∙ ap got (sym (get_or-append xs (c ∷ []) [] j (omega arith)))

  pub units_columns : (cs : List (List Float)) (m : ℕ) → length cs ≡ m → FromUnits m cs → (k : ℕ) → k ≤ m → columns_to advance n w fs k ≡ got (take k cs)
  unfolding columns_to
  units_columns cs m e h zero l = refl
  units_columns cs m e h (suc k) l =
      ap (λ (r : Timed (List (List Float))). then r (λ cs. then (last_of advance n w (homogeneous fs) (unit n k))
      (λ c. got (cs ++ (c ∷ []))))) (units_columns cs m e h k (omega arith))
      ∙ ap (λ (r : Timed (List Float)). then r (λ c. got (take k cs ++ (c ∷ [])))) (h k l)
      ∙ ap got (sym (take-suc cs k [] (omega arith)))

module _ (advance : Propagator) (n : ℕ) (w : Window) (ss : List Float) (es : List Event) (tol : SteadyStateTolerance) (c : List Float) where
  pub solution-yields : (fs : List Event) → ready n w ss es tol ≡ got fs → solution advance n w fs ≡ got c → Yields advance n w ss es tol c
  unfolding solution
  solution-yields fs p q =
      let r = then-got (last_of advance n w fs (replicate n plus_zero)) (λ b. then (columns_to advance n w fs n)
      (λ cs. untimed (solve n (system_of n cs b)))) c q in
      let t = then-got (columns_to advance n w fs n) (λ cs. untimed (solve n (system_of n cs r.0))) c r.2 in
      let u = columns_units advance n w fs n t.0 t.1 in
      record {
        folded = fs;
        prepared = p;
        right = r.0;
        from_zero = r.1;
        columns = t.0;
        count = u.0;
        from_units = u.1;
        solves = untimed-got (solve n (system_of n t.0 r.0)) c t.2;
      }

  pub yields-solution : (y : Yields advance n w ss es tol c) → solution advance n w y.folded ≡ got c
  unfolding solution
  yields-solution y =
      ap (λ (r : Timed (List Float)). then r (λ b. then (columns_to advance n w y.folded n) (λ cs. untimed (solve n (system_of n cs b))))) y.from_zero
      ∙ ap (λ (r : Timed (List (List Float))). then r (λ cs. untimed (solve n (system_of n cs y.right))))
      (units_columns advance n w y.folded y.columns n y.count y.from_units n (le_refl n) ∙ ap got (take_all n y.columns (le_of_eq y.count)))
      ∙ ap untimed y.solves

  pub candidate-yields : candidate_of advance n w ss es tol ≡ got c → Yields advance n w ss es tol c
  unfolding candidate_of
  candidate-yields q = let p = then-got (ready n w ss es tol) (solution advance n w) c q in solution-yields p.0 p.1 p.2

  pub yields-candidate : Yields advance n w ss es tol c → candidate_of advance n w ss es tol ≡ got c
  unfolding candidate_of
  yields-candidate y = ap (λ (r : Timed (List Event)). then r (solution advance n w)) y.prepared ∙ yields-solution y
