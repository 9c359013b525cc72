-- A kernel that `new` makes passes the kernel's own test: the volumes that `new` tests are those in use.
use Rattle.std.specs.Prelude.{Option}
use mathlib.Core.Path.{◌≡◌, refl, sym, ap, ◌∙◌}
use mathlib.Core.Bool.{Bool, true, false, ◌&&◌}
use mathlib.Core.List.{List, [], ◌∷◌}
use Prim.Native.Nat.{ℕ, zero, suc, ◌+◌, ◌<◌, ◌≤◌}
use native.Mathlib.Nat.{not-suc-le-zero, le_of_suc-le-suc, add-zero, zero-add, suc-add, add-suc, zero-lt-suc}
use native.Mathlib.Omega.{arith}
use borrow.Author.Tests.{lt-ltb, leb-true}
use lib.Dec.{ltb, leb, eqb}
use lib.ListN.{length, get_or, take}
use lib.Ieee.{Float, nan}
use Rattle.limits.specs.Limits.{most_volumes}
use Rattle.binary64.specs.Doubles.{nonnegative, positive}
use Rattle.binary64.specs.Lists.{all}
use Rattle.refusal.specs.Result.{refused, done, and_then, unless}
use Rattle.matrix.specs.Matrix.{tabulate, tabulate_from}
use Rattle.linear_pk.specs.declared.kernel.LinearPk.{LinearPk}
use Rattle.linear_pk.specs.LinearPk.{volumes_pass, matrix_finite, sound, kernel_of, passes, parameters_pass, new, padded_cell, padded}
use Rattle.linear_pk.proofs.Counted.{and_first, and_second, volumes_by}

from_front : (f : ℕ → Float) (i w : ℕ) (xs : List Float) → length xs ≤ w → ((k : ℕ) → k < length xs → f (i + k) ≡ get_or xs k nan)
    → take (length xs) (tabulate_from i w f) ≡ xs
unfolding tabulate_from
from_front f i w [] l h = refl
from_front f i zero (x ∷ xs) l h = absurd (not-suc-le-zero l)
from_front f i (suc w) (x ∷ xs) l h =
    let e : f i ≡ x = rw add-zero at (h 0 (zero-lt-suc (length xs))) in
    let r : take (length xs) (tabulate_from (suc i) w f) ≡ xs = from_front f (suc i) w xs (le_of_suc-le-suc l)
    (λ (k : ℕ) (l : k < length xs). rw (add-suc, ← suc-add) at (h (suc k) (omega arith))) in
    rw (e, r)

-- a list is in front of the +0 that fill it up
pub padded_front : (w : ℕ) (xs : List Float) → length xs ≤ w → take (length xs) (padded w xs) ≡ xs
unfolding padded tabulate
padded_front w xs l = from_front (padded_cell xs) 0 w xs l (λ (k : ℕ) (h : k < length xs). rw (zero-add, lt-ltb k (length xs) h))

not_made : {A : Type 0} {c : ℕ} {a : A} → refused c ≡ done a → ⊥
not_made q = let z : ◌≡◌ {A = ℕ} 0 1 = cc in omega arith

same-made : {A : Type 0} {a b : A} → done a ≡ done b → a ≡ b
same-made q = cc

module _ (cl : Float) (vs qs : List Float) (a : Option Float) where
  made_volumes : passes cl vs qs a ≡ true → volumes_pass (kernel_of cl vs qs a) ≡ true
  unfolding passes parameters_pass kernel_of
  made_volumes h =
      let few = and_first (ltb 0 (length vs) && leb (length vs) most_volumes) _ h in
      let values = and_second (eqb (length qs) _) _ (and_second (ltb 0 (length vs) && leb (length vs) most_volumes) _ h) in
      volumes_by (kernel_of cl vs qs a) few
      (sym (ap (all positive) (padded_front most_volumes vs (leb-true (length vs) most_volumes (and_second (ltb 0 (length vs)) _ few)))
      ∙ and_first (all positive vs) _ (and_second (nonnegative cl) _ values)))

  pub new-sound : (k : LinearPk) → new cl vs qs a ≡ done k → sound k ≡ done k
  unfolding new
  new-sound k = on (passes cl vs qs a) refl
    where
      made : LinearPk
      made = kernel_of cl vs qs a

      rates : (b : Bool) → matrix_finite made ≡ b → volumes_pass made ≡ true → unless b 2 made ≡ done k → sound k ≡ done k
      rates true r c q = rw (sym (same-made q)) (rw (c, r))
      rates false r c q = absurd (not_made q)

      on : (b : Bool) → passes cl vs qs a ≡ b → and_then (unless b 1 made) (λ (k : LinearPk). unless (matrix_finite k) 2 k) ≡ done k → sound k ≡ done k
      on true p q = rates (matrix_finite made) refl (made_volumes p) q
      on false p q = absurd (not_made q)
