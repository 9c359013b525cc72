-- An array that `array::from_fn` makes of a closure that changes nothing.
use mathlib.Core.Path.{◌≡◌, sym, ◌∙◌}
use mathlib.Core.List.{List}
use Prim.Native.Nat.{ℕ, zero, suc, ◌+◌, ◌<◌, ◌≤◌}
use native.Mathlib.Nat.{eq-or-lt_of_le}
use native.Mathlib.Omega.{arith}
use mathlib.Core.Logic.{inl, inr}
use lib.ListN.{get_or}
use lib.Seq.{ext_get_or}
use denote.Param.Members.{Mut, Called}
use Rattle.std.specs.Array.{IsFromFnResult, IsFromFnResultFrom}
use Rattle.matrix.specs.Matrix.{tabulate}
use Rattle.matrix.proofs.Filled.{tabulate-length, tabulate-at}

module _ {F B : Type 0} {g : Mut F (ℕ × Unit {0}) B} {f : F} {h : ℕ → B} (n : ℕ)
    (pure : (k : ℕ) (y : B) (q : F) → k < n → Called g f (k, tt) y q → (q ≡ f) × (y ≡ h k)) where
  made_from : (ys : List B) (i m : ℕ) → i + m ≡ n → IsFromFnResultFrom g f ys i m → (k : ℕ) (d : B) → i ≤ k → k < n → get_or ys k d ≡ h k
  made_from ys i zero e r k d l b = absurd (omega arith)
  made_from ys i (suc m) e (q, y, at, called, rest) k d l b =
      let same : (q ≡ f) × (y ≡ h i) = pure i y q (omega arith) called in
      let more : IsFromFnResultFrom g f ys (i + 1) m = rw same.0 at rest in
      elim (eq-or-lt_of_le l) [
        | inl p ↦ rw (← p) (at.1 d ∙ same.1)
        | inr p ↦ made_from ys (i + 1) m (omega arith) more k d (omega arith) b
      ]

  -- it has what the closure gives at each index
  pub made : {ys : List B} → IsFromFnResult g f ys n → ys ≡ tabulate n h
  made {ys} r =
      ext_get_or (h 0) ys (tabulate n h) (r.long ∙ sym (tabulate-length h n))
      (λ k b. made_from ys 0 n (omega arith) r.each k (h 0) (omega arith) (rw r.long at b) ∙ sym (tabulate-at h (h 0) n k (rw r.long at b)))
