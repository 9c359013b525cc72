-- The exponential case by case, in the words of the code.
use mathlib.Core.Path.{◌≡◌, refl, sym, ap, ap₂}
use mathlib.Core.Bool.{Bool}
use Prim.Native.Nat.{ℕ, zero, suc, ◌≤◌}
use native.Mathlib.Omega.{arith}
use lib.Ieee.{Float}
use lib.Ieee.Scale.{finite}
use Rattle.binary64.specs.Doubles.{magnitude, larger}
use Rattle.matrix.specs.Matrix.{Matrix}
use Rattle.matrix.specs.Arrays.{lead, Holds}
use Rattle.refusal.specs.Result.{refused, done, unless}
use Rattle.matrix.specs.Exponential.{Scheme, row_sum, norm_to, halving_count, taylor, all_finite, exponential}
use Rattle.matrix.proofs.Rows.{sum_cong, all_cong, lead-at}

-- ---- what is read of an array is its leading part
pub norm_lead : (m : ℕ) (a : Matrix) (k : ℕ) → k ≤ m → norm_to a m k ≡ norm_to (lead m a) m k
unfolding norm_to row_sum
norm_lead m a zero h = refl
norm_lead m a (suc k) h = ap₂ larger (norm_lead m a k (omega arith)) (sum_cong m (λ j q. ap magnitude (sym (lead-at m a k j h q))))

finite_lead : (m : ℕ) (a : Matrix) → all_finite m a ≡ all_finite m (lead m a)
unfolding all_finite
finite_lead m a = all_cong m (λ i p. all_cong m (λ j q. ap finite (sym (lead-at m a i j p q))))

-- ---- the exponential
module _ (s : Scheme) (m : ℕ) (a : Matrix) where
  pub exponential-refused : {x : Float} {n : ℕ} → x ≡ norm_to a m m → halving_count s.threshold s.most x ≡ refused n
      → exponential s m (lead m a) ≡ refused n
  unfolding exponential
  exponential-refused e h = rw (← norm_lead m a m (omega arith), ← e, h)

  pub exponential-at :
      {x : Float} {c : ℕ} {p : Matrix} {b : Bool} → x ≡ norm_to a m m → halving_count s.threshold s.most x ≡ done c
      → Holds m p (taylor s m c (lead m a)) → b ≡ all_finite m p
      → exponential s m (lead m a) ≡ unless b 22 (record { halved = c; matrix = lead m p })
  unfolding exponential
  exponential-at {p = p} e h t f = rw (← norm_lead m a m (omega arith), ← e, h, ← t.part, ← finite_lead m p, ← f)
