-- State by state: 35 and 36 hold off exactly where each scale is finite and each scaled residual at most 1, and the greatest is then handed
-- on; else the number is that of the first state
-- that fails. Assumes nothing.
use mathlib.Core.Path.{◌≡◌, refl, sym, ap, ◌∙◌, subst}
use Prim.Native.Nat.{ℕ, zero, suc, ◌<◌}
use native.Mathlib.Nat.{le_of_suc-le-suc, eq-or-lt_of_le, lt-suc_self}
use native.Mathlib.Omega.{arith}
use mathlib.Core.Bool.{Bool, true, false, not, ◌&&◌}
use mathlib.Core.List.{List}
use mathlib.Core.Logic.{◌⊎◌, inl, inr}
use lib.Dec.{T, T_not, not_T, ltb, nltb→le, ltb→lt}
use lib.Ieee.{Float, binary64, lt, le, fits, is_nan}
use lib.Ieee.Fits.{div-fits}
use lib.Ieee.Scale.{finite}
use Rattle.binary64.specs.Doubles.{plus_zero, one, larger}
use Rattle.binary64.proofs.Units.{spot, Good}
use Rattle.binary64.proofs.Order.{lt→spot, spot→lt, le→spot, spot→le, not_nan}
use Rattle.matrix.specs.Matrix.{cell}
use Rattle.protocol.proofs.ListLaws.{both, and_T}
use Rattle.cycle.specs.declared.SteadyStateTolerance.{SteadyStateTolerance}
use Rattle.cycle.specs.Closed.{Timed, stopped, got, then, unless_fails, tolerance_passes, scale_of, scaled_of, judged, checked_maximum_to}
use Rattle.cycle.specs.ClosedCycle.{closed_numbers, Small, Fails, scale_fails, residual_fails, FirstFails, maximum_to}
use Rattle.cycle.proofs.Results.{Hands, hands_then, hands_test, hands_map, hands_last, hands_got, test_passes, test_fails, no_answer, same-refusal}
use Rattle.cycle.proofs.Scales.{at_most_finite}

module _ (tol : SteadyStateTolerance) (x y : Float) where
  -- what 36 tests
  abbrev test : Bool
  test = finite (scaled_of tol x y) && not (lt one (scaled_of tol x y))

  one_good : Good binary64 one
  unfolding fits is_nan
  one_good = (tt, tt)

  scaled_good : T (finite (scaled_of tol x y)) → Good binary64 (scaled_of tol x y)
  unfolding scaled_of
  scaled_good h = (div-fits binary64 _ _, not_nan (scaled_of tol x y) h)

  at_most : T test → T (le (scaled_of tol x y) one)
  at_most h =
      let p = both (finite (scaled_of tol x y)) (not (lt one (scaled_of tol x y))) h in
      let g = scaled_good p.0 in
      spot→le binary64 (scaled_of tol x y) one g one_good
      (nltb→le (spot binary64 one) (spot binary64 (scaled_of tol x y)) (not_T (ltb (spot binary64 one) (spot binary64 (scaled_of tol x y)))
      (λ l. T_not (lt one (scaled_of tol x y)) p.1 (spot→lt binary64 one (scaled_of tol x y) one_good g
      (ltb→lt (spot binary64 one) (spot binary64 (scaled_of tol x y)) l)))))

  passes : T (tolerance_passes tol) → T (le (scaled_of tol x y) one) → T test
  passes ok h =
      let f = at_most_finite tol x y ok h in
      let g = scaled_good f in
      and_T (finite (scaled_of tol x y)) (not (lt one (scaled_of tol x y))) f
      (not_T (lt one (scaled_of tol x y)) (λ l. omega (
        arith,
        lt→spot binary64 one (scaled_of tol x y) one_good g l,
        le→spot binary64 (scaled_of tol x y) one g one_good h,
      )))

  judged_hands : (m : Float) → Hands closed_numbers (λ (r : Float). Small tol x y × (r ≡ larger m (scaled_of tol x y))) (judged tol x y m)
  unfolding judged
  judged_hands m =
      hands_test closed_numbers P (finite (scale_of tol x y)) 35 m _ tt
      (λ s. hands_last closed_numbers P test 36 (larger m (scaled_of tol x y)) tt (λ t. (record { scale = s; residual = at_most t }, refl)))
    where
      P : Float → Type 0
      P r = Small tol x y × (r ≡ larger m (scaled_of tol x y))

  small_judged : (m : Float) → T (tolerance_passes tol) → Small tol x y → judged tol x y m ≡ got (larger m (scaled_of tol x y))
  unfolding judged
  small_judged m ok h =
      ap (λ (r : Timed Float). then r (λ m. unless_fails test 36 (larger m (scaled_of tol x y)))) (test_passes (finite (scale_of tol x y)) 35 m h.scale)
      ∙ test_passes test 36 (larger m (scaled_of tol x y)) (passes ok h.residual)

  -- 35 or 36, each with +0
  fails-judged : (g : Float) {m : ℕ} → Fails tol x y m → judged tol x y g ≡ stopped m plus_zero
  unfolding judged
  fails-judged g (scale_fails h) = ap (λ (r : Timed Float). then r (λ g. unless_fails test 36 (larger g (scaled_of tol x y))))
      (test_fails (finite (scale_of tol x y)) 35 g h)
  fails-judged g (residual_fails f h) =
      ap (λ (r : Timed Float). then r (λ g. unless_fails test 36 (larger g (scaled_of tol x y)))) (test_passes (finite (scale_of tol x y)) 35 g f)
      ∙ test_fails test 36 (larger g (scaled_of tol x y)) (not_T test (λ t. T_not (le (scaled_of tol x y) one) h (at_most t)))

  judged-fails : (g : Float) (m : ℕ) (t : Float) → T (tolerance_passes tol) → judged tol x y g ≡ stopped m t → Fails tol x y m × (t ≡ plus_zero)
  unfolding judged
  judged-fails g m t ok = on (finite (scale_of tol x y)) (λ b. b) (λ b. b)
    where
      is : (k : ℕ) → Fails tol x y k → ◌≡◌ {A = Timed Float} (stopped k plus_zero) (stopped m t) → Fails tol x y m × (t ≡ plus_zero)
      is k h q = let e = same-refusal q in (subst (Fails tol x y) e.0 h, sym e.1)

      last : (b : Bool) → (T (not b) → T (not test)) → T (finite (scale_of tol x y))
          → unless_fails b 36 (larger g (scaled_of tol x y)) ≡ stopped m t → Fails tol x y m × (t ≡ plus_zero)
      last true f s q = absurd (no_answer (sym q))
      last false f s q = is 36 (residual_fails s (not_T (le (scaled_of tol x y) one) (λ l. T_not test (f tt) (passes ok l)))) q

      on : (b : Bool) → (T b → T (finite (scale_of tol x y))) → (T (not b) → T (not (finite (scale_of tol x y))))
          → then (unless_fails b 35 g) (λ g. unless_fails test 36 (larger g (scaled_of tol x y))) ≡ stopped m t → Fails tol x y m × (t ≡ plus_zero)
      on true f h q = last test (λ b. b) (f tt) q
      on false f h q = is 35 (scale_fails (h tt)) q

-- ---- all of them
module _ (tol : SteadyStateTolerance) (a e : List Float) where
  abbrev pub AllSmall : ℕ → Type 0
  AllSmall k = (i : ℕ) → i < k → Small tol (cell a i) (cell e i)

  abbrev pub Greatest : ℕ → Float → Type 0
  Greatest k m = AllSmall k × (m ≡ maximum_to tol a e k)

  pub greatest_hands : (k : ℕ) → Hands closed_numbers (Greatest k) (checked_maximum_to tol a e k)
  unfolding checked_maximum_to maximum_to
  greatest_hands zero = (λ (i : ℕ) (l : i < 0). absurd (no i l), refl)
    where
      no : (i : ℕ) → i < 0 → ⊥
      no i l = omega arith
  greatest_hands (suc k) =
      hands_then closed_numbers (Greatest (suc k)) (Greatest k) (checked_maximum_to tol a e k) (judged tol (cell a k) (cell e k)) (greatest_hands k)
      (λ m h. hands_map closed_numbers (λ (r : Float). Small tol (cell a k) (cell e k) × (r ≡ larger m (scaled_of tol (cell a k) (cell e k))))
      (Greatest (suc k)) (judged tol (cell a k) (cell e k) m)
      (λ r j. (
        λ (i : ℕ) (l : i < suc k). on i h.0 j.0 (eq-or-lt_of_le (le_of_suc-le-suc l)),
        j.1
            ∙ ap (λ (z : Float). larger z (scaled_of tol (cell a k) (cell e k))) h.1,
      ))
      (judged_hands tol (cell a k) (cell e k) m))
    where
      on : (i : ℕ) → AllSmall k → Small tol (cell a k) (cell e k) → (i ≡ k) ⊎ (i < k) → Small tol (cell a i) (cell e i)
      on i h j (inl p) = subst (λ (x : ℕ). Small tol (cell a x) (cell e x)) (sym p) j
      on i h j (inr l) = h i l

  pub small_greatest : (k : ℕ) → T (tolerance_passes tol) → AllSmall k → checked_maximum_to tol a e k ≡ got (maximum_to tol a e k)
  unfolding checked_maximum_to maximum_to
  small_greatest zero ok h = refl
  small_greatest (suc k) ok h =
      ap (λ (r : Timed Float). then r (judged tol (cell a k) (cell e k))) (small_greatest k ok (λ (i : ℕ) (l : i < k). h i (omega arith)))
      ∙ small_judged tol (cell a k) (cell e k) (maximum_to tol a e k) ok (h k (lt-suc_self k))

  -- ---- the first that fails
  pub fails_greatest : (k m : ℕ) → T (tolerance_passes tol) → FirstFails tol a e k m → checked_maximum_to tol a e k ≡ stopped m plus_zero
  unfolding checked_maximum_to
  fails_greatest zero m ok h = absurd (no h.state h.below)
    where
      no : (i : ℕ) → i < 0 → ⊥
      no i l = omega arith
  fails_greatest (suc k) m ok h = on h.state h.ahead h.fails (eq-or-lt_of_le (le_of_suc-le-suc h.below)) (fails_greatest k m ok)
    where
      at : AllSmall k → Fails tol (cell a k) (cell e k) m → then (checked_maximum_to tol a e k) (judged tol (cell a k) (cell e k)) ≡ stopped m plus_zero
      at s f =
          ap (λ (r : Timed Float). then r (judged tol (cell a k) (cell e k))) (small_greatest k ok s)
          ∙ fails-judged tol (cell a k) (cell e k) (maximum_to tol a e k) f

      on : (i : ℕ) → AllSmall i → Fails tol (cell a i) (cell e i) m → (i ≡ k) ⊎ (i < k)
          → (FirstFails tol a e k m → checked_maximum_to tol a e k ≡ stopped m plus_zero)
          → then (checked_maximum_to tol a e k) (judged tol (cell a k) (cell e k)) ≡ stopped m plus_zero
      on i s f (inl p) ih = at (subst AllSmall p s) (subst (λ (j : ℕ). Fails tol (cell a j) (cell e j) m) p f)
      on i s f (inr l) ih = ap (λ (r : Timed Float). then r (judged tol (cell a k) (cell e k))) (ih (record { state = i; below = l; ahead = s; fails = f }))

  pub greatest_fails : (k m : ℕ) (t : Float) → T (tolerance_passes tol) → checked_maximum_to tol a e k ≡ stopped m t → FirstFails tol a e k m × (t ≡ plus_zero)
  unfolding checked_maximum_to
  greatest_fails zero m t ok q = absurd (no_answer (sym q))
  greatest_fails (suc k) m t ok q = on (checked_maximum_to tol a e k) refl q (greatest_fails k m t ok)
    where
      on : (r : Timed Float) → checked_maximum_to tol a e k ≡ r → then r (judged tol (cell a k) (cell e k)) ≡ stopped m t
          → (checked_maximum_to tol a e k ≡ stopped m t → FirstFails tol a e k m × (t ≡ plus_zero))
          → FirstFails tol a e (suc k) m × (t ≡ plus_zero)
      on (stopped c u) p q ih =
          let h = ih (p ∙ q) in
          (record { state = h.0.state; below = omega (arith, h.0.below); ahead = h.0.ahead; fails = h.0.fails }, h.1)
      on (got g) p q ih =
          let h = judged-fails tol (cell a k) (cell e k) g m t ok q in (
            record {
              state = k;
              below = lt-suc_self k;
              ahead = (hands_got closed_numbers (Greatest k) (checked_maximum_to tol a e k) g
                  (greatest_hands k) p).0;
              fails = h.0;
            },
            h.1,
          )
