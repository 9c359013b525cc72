-- A run over two parts of a schedule, and where it stops: a part goes on, and the step behind it stops. Assumes nothing.
use mathlib.Core.Path.{◌≡◌, refl, ap, ◌∙◌}
use Prim.Native.Nat.{ℕ}
use native.Mathlib.Omega.{arith}
use mathlib.Core.List.{List, [], ◌∷◌, ◌++◌}
use lib.Ieee.{Float}
use Rattle.protocol.specs.Schedule.{Step}
use Rattle.protocol.specs.Execute.{Propagator, State, Outcome, go, stop, and_then, execute, run}

-- ---- outcomes apart
pub go-stop : {y z : State} {c : ℕ} {t : Float} → go y ≡ stop c t z → ⊥
go-stop e = let q : ◌≡◌ {A = ℕ} 0 1 = cc in omega arith

pub stop-go : {y z : State} {c : ℕ} {t : Float} → stop c t y ≡ go z → ⊥
stop-go e = let q : ◌≡◌ {A = ℕ} 0 1 = cc in omega arith

pub go_same : {y z : State} → go y ≡ go z → y ≡ z
go_same e = cc

pub stop-same : {c d : ℕ} {t u : Float} {y z : State} → stop c t y ≡ stop d u z → (c ≡ d) × (t ≡ u) × (y ≡ z)
stop-same e = (cc, cc, cc)

module _ (advance : Propagator) (budget : ℕ) where
  pub run-append : (xs ys : List Step) (s : State) → run advance budget s (xs ++ ys)
      ≡ and_then (run advance budget s xs) (λ (z : State). run advance budget z ys)
  unfolding run
  run-append [] ys s = refl
  run-append (x ∷ xs) ys s = on (execute advance budget s x) (run-append xs ys)
    where
      on : (o : Outcome) → ((z : State) → run advance budget z (xs ++ ys) ≡ and_then (run advance budget z xs) (λ (z : State). run advance budget z ys))
          → and_then o (λ (z : State). run advance budget z (xs ++ ys))
          ≡ and_then (and_then o (λ (z : State). run advance budget z xs)) (λ (z : State). run advance budget z ys)
      on (go z) ih = ih z
      on (stop c t z) ih = refl

  -- the schedule is a part that goes on, the step that stops, and a rest
  pub record Stops (s : State) (xs : List Step) (c : ℕ) (t : Float) (z : State) : Type 0 where
    pub ahead : List Step
    pub step : Step
    pub rest : List Step
    pub parts : xs ≡ ahead ++ (step ∷ rest)
    pub left : State
    pub ran : run advance budget s ahead ≡ go left
    pub refuses : execute advance budget left step ≡ stop c t z

  pub stop_splits : (xs : List Step) (s : State) (c : ℕ) (t : Float) (z : State) → run advance budget s xs ≡ stop c t z → Stops s xs c t z
  unfolding run
  stop_splits [] s c t z e = absurd (go-stop e)
  stop_splits (x ∷ xs) s c t z e = on (execute advance budget s x) refl e (λ (y : State). stop_splits xs y c t z)
    where
      on : (o : Outcome) → execute advance budget s x ≡ o → and_then o (λ (y : State). run advance budget y xs) ≡ stop c t z
          → ((y : State) → run advance budget y xs ≡ stop c t z → Stops y xs c t z) → Stops s (x ∷ xs) c t z
      on (go y) p q ih =
          let w = ih y q in
          record {
            ahead = x ∷ w.ahead;
            step = w.step;
            rest = w.rest;
            parts = ap (◌∷◌ x) w.parts;
            left = w.left;
            ran = ap (λ (o : Outcome). and_then o (λ (y : State). run advance budget y w.ahead)) p ∙ w.ran;
            refuses = w.refuses;
          }
      on (stop d u y) p q ih = record { ahead = []; step = x; rest = xs; parts = refl; left = s; ran = refl; refuses = p ∙ q }

  pub split_stops : (xs : List Step) (s : State) (c : ℕ) (t : Float) (z : State) → Stops s xs c t z → run advance budget s xs ≡ stop c t z
  unfolding run
  split_stops xs s c t z w =
      ap (run advance budget s) w.parts ∙ run-append w.ahead (w.step ∷ w.rest) s
      ∙ ap (λ (o : Outcome). and_then o (λ (y : State). run advance budget y (w.step ∷ w.rest))) w.ran
      ∙ ap (λ (o : Outcome). and_then o (λ (y : State). run advance budget y w.rest)) w.refuses
