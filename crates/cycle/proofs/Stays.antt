-- Steps in turn: a stop is what all of them give.
use mathlib.Core.Path.{◌≡◌, sym, ap, ◌∙◌}
use mathlib.Core.Logic.{◌⊎◌, inl, inr}
use Prim.Native.Nat.{ℕ, zero, suc, ◌≤◌, ◌<◌}
use native.Mathlib.Nat.{le_of_suc-le-suc, eq-or-lt_of_le}
use native.Mathlib.Omega.{arith}
use lib.Ieee.{Float}
use Rattle.cycle.specs.Closed.{Timed, stopped, then}

pub stays : {A : Type 0} (f : ℕ → Timed A) (step : ℕ → A → Timed A) → ((k : ℕ) → f (suc k) ≡ then (f k) (step k)) → (k n : ℕ) → k ≤ n
    → {c : ℕ} {t : Float} → f k ≡ stopped c t → f n ≡ stopped c t
stays f step h k zero l e = ap f (none k l) ∙ e
  where
    none : (k : ℕ) → k ≤ 0 → 0 ≡ k
    none k l = omega arith
stays f step h k (suc n) l {c} {t} e = on (eq-or-lt_of_le l) (λ g. stays f step h k n g e)
  where
    on : (k ≡ suc n) ⊎ (k < suc n) → (k ≤ n → f n ≡ stopped c t) → f (suc n) ≡ stopped c t
    on (inl q) go = ap f (sym q) ∙ e
    on (inr g) go = h n ∙ ap (λ r. then r (step n)) (go (le_of_suc-le-suc g))
