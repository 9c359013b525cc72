-- The definitions case by case, in the words of the code.
use mathlib.Core.Path.{◌≡◌, refl, sym, ap₂, ◌∙◌}
use mathlib.Core.Bool.{Bool, true, false}
use mathlib.Core.List.{List}
use Prim.Native.Nat.{ℕ, ◌+◌}
use native.Mathlib.Omega.{arith}
use lib.ListN.{length}
use lib.Ieee.{Float, binary64, add, mul, eq}
use lib.Ieee.Scale.{finite}
use Rattle.binary64.specs.Doubles.{plus_zero, nonnegative}
use Rattle.matrix.specs.Matrix.{Matrix, cell, tabulate, all_to}
use Rattle.binary64.specs.Lists.{all}
use Rattle.matrix.specs.Arrays.{lead}
use Rattle.refusal.specs.Result.{refused, done, and_then, unless}
use Rattle.matrix.specs.Exponential.{Scheme, Exponential}
use Rattle.linear_pk_interval.specs.Interval.{propagator, amount_to, propagated, interval}
use Rattle.matrix.proofs.Filled.{tabulate_cong}
use Rattle.matrix.proofs.Rows.{sum_cong, lead-at}

-- ---- the propagator applied
pub applied-at :
    (n : ℕ) (p : Matrix) (x r : List Float) (d : Float) {b c : Bool} {y : List Float}
    → length r ≡ n → b ≡ all_to (λ j. finite (mul binary64 (cell r j) d)) (length r)
    → y ≡ tabulate n (λ i. amount_to p n x r d i n) → c ≡ all nonnegative y
    → propagated n (lead (n + n) p) x r d ≡ and_then (unless b 22 y) (λ _. unless c 22 y)
unfolding propagated amount_to
applied-at n p x r d {b} {c} {y} l f e g =
    let q : tabulate n (λ i. amount_to (lead (n + n) p) n x r d i n) ≡ y =
    tabulate_cong n (λ i l. sum_cong n (λ j k. ap₂ (λ (u v : Float). add binary64 (mul binary64 u (cell x j))
    (mul binary64 v (mul binary64 (cell r j) d))) (lead-at (n + n) p i j (omega arith) (omega arith)) (lead-at (n + n) p i (j + n)
    (omega arith) (omega arith))))
    ∙ sym e in
    let h : b ≡ all_to (λ j. finite (mul binary64 (cell r j) d)) n = rw l at f in
    rw (q, ← h) (on b)
  where
    on : (b : Bool) → and_then (unless b 22 y) (λ y. unless (all nonnegative y) 22 y) ≡ and_then (unless b 22 y) (λ _. unless c 22 y)
    on true = rw g
    on false = refl

-- ---- an interval
module _ (s : Scheme) (n : ℕ) (k x r : List Float) (d : Float) where
  pub interval_none : eq d plus_zero ≡ true → interval s n k x r d ≡ done x
  unfolding interval
  interval_none h = rw h

  pub interval-refused : {c : ℕ} → eq d plus_zero ≡ false → propagator s n k d ≡ refused c → interval s n k x r d ≡ refused c
  unfolding interval
  interval-refused h e = rw (h, e)

  pub interval_applied : {e : Exponential} → eq d plus_zero ≡ false → propagator s n k d ≡ done e → interval s n k x r d ≡ propagated n e.matrix x r d
  unfolding interval
  interval_applied h e = rw (h, e)
