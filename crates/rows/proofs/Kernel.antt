-- What `advance` gives: a refusal's number is above 0, and the amounts are as many as were given.
use mathlib.Core.Path.{◌≡◌, refl, sym, ap, ◌∙◌, subst}
use Prim.Native.Nat.{ℕ, zero, suc, ◌+◌, ◌≤◌, ◌<◌}
use native.Mathlib.Nat.{lt_irrefl, not-suc-le-zero}
use native.Mathlib.Omega.{arith}
use mathlib.Core.Bool.{Bool, true, false, ◌&&◌}
use mathlib.Core.List.{List, ◌++◌, append-nil}
use lib.Dec.{leb}
use lib.ListN.{length, take, drop_of_length-le}
use lib.Seq.{take-append-le, take_all}
use lib.Ieee.{Float, binary64, mul, eq, lt}
use lib.Ieee.Scale.{finite}
use Rattle.binary64.specs.Doubles.{plus_zero, half, nonnegative}
use Rattle.refusal.specs.Result.{Result, refused, done, and_then, unless, number, slice_at_exit}
use Rattle.refusal.specs.Numbers.{reply_number, result_of, Reply}
use Rattle.std.specs.Prelude.{Ok, Err}
use Rattle.refusal.proofs.Numbers.{refusal-number}
use Rattle.matrix.specs.Matrix.{Matrix, cell, tabulate, all_to}
use Rattle.binary64.specs.Lists.{all, amounts_pass}
use Rattle.matrix.specs.Exponential.{Scheme, scheme, halvings, halving_count, norm_to, taylor, all_finite, exponential}
use Rattle.matrix.proofs.Filled.{tabulate-length}
use Rattle.linear_pk_interval.specs.Interval.{propagator, amount_to, propagated, over, interval}
use Rattle.linear_pk.specs.declared.kernel.LinearPk.{LinearPk}
use Rattle.linear_pk.specs.LinearPk.{volumes_pass, matrix_finite, sound, state_count, advance}
use Rattle.linear_pk.proofs.Counted.{and_first, amounts-count}
use Rattle.rows.specs.Standing.{kernel_advance}

abbrev Sure : {A : Type 0} → (A → Type 0) → Result A → Type 0
Sure P (refused c) = 0 < c
Sure P (done a) = P a

abbrev Any : {A : Type 0} → A → Type 0
Any a = Unit {0}

sure_then : {A B : Type 0} (P : A → Type 0) (Q : B → Type 0) (r : Result A) (f : A → Result B) → Sure P r → ((a : A) → P a → Sure Q (f a))
    → Sure Q (and_then r f)
sure_then P Q (refused c) f h g = h
sure_then P Q (done a) f h g = g a h

sure_unless : {A : Type 0} (P : A → Type 0) (b : Bool) (c : ℕ) (a : A) → 0 < c → (b ≡ true → P a) → Sure P (unless b c a)
sure_unless P true c a l h = h refl
sure_unless P false c a l h = l

sure_halvings : (limit : Float) (d n : ℕ) (x : Float) → Sure Any (halvings limit d n x)
unfolding halvings
sure_halvings limit zero n x = omega arith
sure_halvings limit (suc d) n x = on (lt limit x) (sure_halvings limit d (suc n) (mul binary64 x half))
  where
    on : (b : Bool) → Sure Any (halvings limit d (suc n) (mul binary64 x half))
        → Sure {A = ℕ} Any (elim b [ false ↦ done n | true ↦ halvings limit d (suc n) (mul binary64 x half) ])
    on true h = h
    on false h = tt

module _ (s : Scheme) (k : LinearPk) where
  sure_sound : Sure Any (sound k)
  sure_sound =
      sure_then Any Any (unless (volumes_pass k) 1 k) (λ k. unless (matrix_finite k) 2 k)
      (sure_unless Any (volumes_pass k) 1 k (omega arith) (λ _. tt)) (λ j _. sure_unless Any (matrix_finite j) 2 j (omega arith) (λ _. tt))

  sure_count : (x : Float) → Sure Any (halving_count s.threshold s.most x)
  unfolding halving_count
  sure_count x =
      sure_then Any Any (unless (finite x) 20 x) (halvings s.threshold (suc s.most) 0)
      (sure_unless Any (finite x) 20 x (omega arith) (λ _. tt)) (λ y _. sure_halvings s.threshold (suc s.most) 0 y)

  sure_exponential : (m : ℕ) (a : Matrix) → Sure Any (exponential s m a)
  unfolding exponential
  sure_exponential m a =
      sure_then Any Any (halving_count s.threshold s.most (norm_to a m m)) (λ c. unless (all_finite m (taylor s m c a)) 22
      (record { halved = c; matrix = taylor s m c a })) (sure_count (norm_to a m m))
      (λ c _. sure_unless Any (all_finite m (taylor s m c a)) 22 (record { halved = c; matrix = taylor s m c a }) (omega arith) (λ _. tt))

  module _ (x r : List Float) (d : Float) where
    abbrev Sized : ℕ → List Float → Type 0
    Sized n y = length y ≡ n

    sure_applied : (n : ℕ) (p : Matrix) → Sure (Sized n) (propagated n p x r d)
    unfolding propagated
    sure_applied n p =
        sure_then (Sized n) (Sized n) (unless (all_to (λ j. finite (mul binary64 (cell r j) d)) n) 22
        (tabulate n (λ i. amount_to p n x r d i n))) (λ y. unless (all nonnegative y) 22 y)
        (sure_unless (Sized n) (all_to (λ j. finite (mul binary64 (cell r j) d)) n) 22 (tabulate n (λ i. amount_to p n x r d i n))
        (omega arith) (λ _. tabulate-length (λ i. amount_to p n x r d i n) n))
        (λ y h. sure_unless (Sized n) (all nonnegative y) 22 y (omega arith) (λ _. h))

    sure_interval : (n : ℕ) → length x ≡ n → Sure (Sized n) (interval s n k.matrix x r d)
    unfolding interval propagator
    sure_interval n h = on (eq d plus_zero)
      where
        on : (b : Bool) → Sure (Sized n) (over b x (and_then (propagator s n k.matrix d) (λ e. propagated n e.matrix x r d)))
        on true = h
        on false =
            sure_then Any (Sized n) (propagator s n k.matrix d) (λ e. propagated n e.matrix x r d) (sure_exponential (n + n) _)
            (λ e _. sure_applied n e.matrix)

    sure_advance : (room : ℕ) → Sure (Sized (length x)) (advance s k x r d room)
    unfolding advance
    sure_advance room =
        sure_then Any (Sized (length x)) (sound k) _ sure_sound
        (λ _ _. sure_then (λ (_ : List Float). length x ≡ n) (Sized (length x)) (unless (amounts_pass n x && (amounts_pass n r && nonnegative d)) 3 x) _
        (sure_unless (λ (_ : List Float). length x ≡ n) (amounts_pass n x && (amounts_pass n r && nonnegative d)) 3 x (omega arith)
        (λ h. amounts-count n x (and_first (amounts_pass n x) _ h)))
        (λ _ e. sure_then Any (Sized (length x)) (unless (leb n room) 4 x) _ (sure_unless Any (leb n room) 4 x (omega arith) (λ _. tt))
        (λ _ _. subst (λ (j : ℕ). Sure (Sized j) (interval s n k.matrix x r d)) (sym e) (sure_interval n e))))
      where
        n : ℕ
        n = state_count k

-- ---- the code's advance
module _ (k : LinearPk) (n : ℕ) (x r : List Float) (d : Float) (room : ℕ) (same : room ≡ n) (count : length x ≡ n) (reply : Reply)
    (says : reply_number reply ≡ number (advance scheme k x r d room)) where
  by_room : advance scheme k x r d room ≡ kernel_advance k n x r d
  unfolding kernel_advance
  by_room = ap (advance scheme k x r d) same

  pub advance_moves : (old out rest : List Float) → length old ≡ n → out ≡ slice_at_exit (advance scheme k x r d room) old
      → result_of reply (take n (out ++ rest)) ≡ kernel_advance k n x r d
  advance_moves old out rest l q = on reply (advance scheme k x r d room) (sure_advance scheme k x r d room) says q ∙ by_room
    where
      on : (p : Reply) (a : Result (List Float)) → Sure (λ (y : List Float). length y ≡ length x) a → reply_number p ≡ number a
          → out ≡ slice_at_exit a old → result_of p (take n (out ++ rest)) ≡ a
      on (Err i) (refused c) s p q = ap refused p
      on (Err i) (done y) s p q = absurd (not-suc-le-zero (subst (λ (j : ℕ). 1 ≤ j) p (refusal-number i)))
      on (Ok u) (refused c) s p q = absurd (lt_irrefl 0 (subst (λ (j : ℕ). 0 < j) (sym p) s))
      on (Ok u) (done y) s p q =
          let w : out ≡ y = q ∙ ap (λ (v : List Float). y ++ v) (drop_of_length-le old {i = length y} (omega arith)) ∙ append-nil y in
          ap done (ap (λ (v : List Float). take n (v ++ rest)) w ∙ take-append-le n y rest (omega arith) ∙ take_all n y (omega arith))
