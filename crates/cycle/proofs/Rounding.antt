-- What is rounded has the sign that was asked, and 0 is rounded to a zero. Assumes nothing.
use mathlib.Core.Path.{◌≡◌, sym, subst}
use Prim.Native.Nat.{ℕ, zero, suc, ◌+◌, ◌*◌, ◌^◌, ◌<◌}
use native.Mathlib.Nat.{zero-mul}
use mathlib.Core.Bool.{Bool, true, false, not, cond}
use lib.Pow.{pow_pos}
use lib.Dec.{T, ltb}
use lib.Ieee.{inf, Format, prec, low, emax, odd, units, round}
use lib.Ieee.Exact.{HasValue, round_exact}
use Rattle.binary64.specs.Doubles.{negative}

pub zero_value : (f : Format) (s : Bool) (a c : ℕ) → a ≡ 0 → 0 < c → HasValue (round f s a c) s 0 c
zero_value f s a c p h =
    subst (λ (x : ℕ). HasValue (round f s x c) s 0 c) (sym p)
    (round_exact f s 0 c 0 0 h (pow_pos (prec f)) (subst (λ (x : ℕ). x < 2 ^ (low f + suc (emax f))) (sym (zero-mul (2 ^ 0)))
    (pow_pos (low f + suc (emax f)))) (simp zero-mul))

pub round_clear : (f : Format) (a c : ℕ) → T (not (negative (round f false a c)))
unfolding round units odd
round_clear f a c = units_clear _ _
  where
    odd_clear : (d q k l : ℕ) → T (not (negative (odd d false q k l)))
    odd_clear d zero k l = tt
    odd_clear d (suc q) k l = tt

    units_clear : (q k : ℕ) → T (not (negative (units f false q k)))
    units_clear q k = on (ltb (q * 2 ^ k) (2 ^ (low f + suc (emax f))))
      where
        on : (b : Bool) → T (not (negative (cond b (odd (suc (prec f)) false q k (low f)) (inf false))))
        on true = odd_clear (suc (prec f)) q k (low f)
        on false = tt
