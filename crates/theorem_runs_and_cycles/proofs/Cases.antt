-- A result by its cases, each with its equation; numbers above 0 are not 0.
use mathlib.Core.Path.{◌≡◌, refl}
use Prim.Native.Nat.{ℕ, zero, suc, ◌<◌}
use native.Mathlib.Omega.{arith}
use lib.Dec.{T}
use lib.Ieee.{Float}
use Rattle.protocol.specs.PlainRun.{one_of}
use Rattle.protocol.specs.Execute.{State, Outcome, go, stop}
use Rattle.cycle.specs.Closed.{Timed, stopped, got}
use Rattle.cycle.specs.ClosedCycle.{closed_numbers}

pub not_zero : {A : Type 0} {m : ℕ} → 0 < m → m ≡ 0 → A
not_zero h e = absurd (no h e)
  where
    no : {m : ℕ} → 0 < m → m ≡ 0 → ⊥
    no h e = omega arith

-- the numbers at which a closed cycle stops
pub positive : (m : ℕ) → T (one_of m closed_numbers) → 0 < m
positive zero h = absurd h
positive (suc m) h = omega arith

module _ {P : Type 0} where
  pub by_timed : {A : Type 0} (o : Timed A) → ((m : ℕ) (t : Float) → o ≡ stopped m t → P) → ((x : A) → o ≡ got x → P) → P
  by_timed (stopped m t) f g = f m t refl
  by_timed (got x) f g = g x refl

  pub by_outcome : (o : Outcome) → ((m : ℕ) (t : Float) (z : State) → o ≡ stop m t z → P) → ((z : State) → o ≡ go z → P) → P
  by_outcome (stop m t z) f g = f m t z refl
  by_outcome (go z) f g = g z refl
