-- The columns of the unit amounts, one by one.
use mathlib.Core.Path.{◌≡◌, refl, sym, ap, ap₂, ◌∙◌}
use mathlib.Core.List.{List, [], ◌∷◌, ◌++◌}
use Prim.Native.Nat.{ℕ, zero, suc, ◌+◌, ◌≤◌, ◌<◌}
use native.Mathlib.Nat.{add-zero, zero-add, add-suc, suc-add, le_antisymm}
use native.Mathlib.Numerals.{add-one}
use native.Mathlib.Omega.{arith}
use lib.ListN.{length, get_or, get_or-append, set, take, replicate}
use lib.Seq.{length-take-le, get_or-set_same, get_or-set_other, take-set-lt}
use lib.Ieee.{Float}
use Rattle.limits.specs.Limits.{states}
use Rattle.binary64.specs.Doubles.{plus_zero, one}
use Rattle.matrix.specs.Matrix.{tabulate_from, tabulate}
use Rattle.matrix.proofs.Filled.{tabulate_cong, take-replicate}
use Rattle.protocol.specs.Execute.{Propagator}
use Rattle.protocol.specs.declared.Event.{Event}
use Rattle.protocol.specs.declared.Window.{Window}
use Rattle.cycle.specs.Closed.{Timed, stopped, got, then, homogeneous, unit, last_of, columns_to}
use Rattle.periodic_runs.specs.Columns.{columns_of}
use Rattle.cycle.proofs.Stays.{stays}

-- a unit amount of n states
pub unit_front : (n j : ℕ) → n ≤ states → j < n → take n (unit states j) ≡ unit n j
unfolding unit
unit_front n j h l = take-set-lt n (replicate states plus_zero) j one l ∙ ap (λ (xs : List Float). set xs j one) (take-replicate n states plus_zero h)

from_snoc : {A : Type 0} (f : ℕ → A) (i m : ℕ) → tabulate_from i (suc m) f ≡ tabulate_from i m f ++ (f (i + m) ∷ [])
unfolding tabulate_from
from_snoc f i zero = rw add-zero
from_snoc f i (suc m) = ap (◌∷◌ (f i)) (from_snoc f (suc i) m ∙ rw (suc-add, ← add-suc))

tabulate_snoc : {A : Type 0} (f : ℕ → A) (m : ℕ) → tabulate (suc m) f ≡ tabulate m f ++ (f m ∷ [])
unfolding tabulate
tabulate_snoc f m = rw zero-add at (from_snoc f 0 m)

-- one column more is stored
columns-set : (n : ℕ) (cs : List (List Float)) (j : ℕ) (a : List Float) → j < length cs → columns_of n (set cs j a) (suc j) ≡ columns_of n cs j ++ (take n a ∷ [])
columns-set n cs j a h =
    tabulate_snoc (λ (i : ℕ). take n (get_or (set cs j a) i [])) j
    ∙ ap₂ (λ (xs : List (List Float)) (x : List Float). xs ++ (x ∷ []))
    (tabulate_cong j (λ (i : ℕ) (g : i < j). ap (take n) (get_or-set_other cs j i a [] (λ q. apart i q g))))
    (ap (take n) (get_or-set_same cs j a [] h))
  where
    apart : (i : ℕ) → i ≡ j → i < j → ⊥
    apart i q g = omega arith

-- a place in the front
pub below_front : {A : Type 0} (n k : ℕ) (xs : List A) → n ≤ length xs → k < length (take n xs) → k < n
below_front n k xs h l = omega (arith, l, length-take-le n xs h)

pub past_front : {A : Type 0} (n k : ℕ) (xs : List A) → n ≤ length xs → length (take n xs) ≤ k → n ≤ k
past_front n k xs h l = omega (arith, l, length-take-le n xs h)

-- the columns are those in front
pub columns-front : (n : ℕ) (cs ds : List (List Float)) → n ≤ length cs → columns_of n (cs ++ ds) n ≡ columns_of n cs n
columns-front n cs ds h = tabulate_cong n (λ (i : ℕ) (g : i < n). ap (take n) (get_or-append cs ds [] i (omega arith)))

module _ (advance : Propagator) (n : ℕ) (w : Window) (fs : List Event) where
  step : ℕ → List (List Float) → Timed (List (List Float))
  step k cs = then (last_of advance n w (homogeneous fs) (unit n k)) (λ c. got (cs ++ (c ∷ [])))

  columns-step : (k : ℕ) → columns_to advance n w fs (suc k) ≡ then (columns_to advance n w fs k) (step k)
  unfolding columns_to step
  columns-step k = refl

  module _ (cs : List (List Float)) (j : ℕ) (so_far : columns_to advance n w fs j ≡ got (columns_of n cs j)) where
    next : {r : Timed (List Float)} → r ≡ last_of advance n w (homogeneous fs) (unit n j)
        → columns_to advance n w fs (suc j) ≡ then r (λ c. got (columns_of n cs j ++ (c ∷ [])))
    unfolding step
    next e = columns-step j ∙ ap (λ x. then x (step j)) so_far ∙ ap (λ x. then x (λ c. got (columns_of n cs j ++ (c ∷ [])))) (sym e)

    pub columns_more : (a : List Float) → j < length cs → got (take n a) ≡ last_of advance n w (homogeneous fs) (unit n j)
        → columns_to advance n w fs (j + 1) ≡ got (columns_of n (set cs j a) (j + 1))
    columns_more a h e = rw add-one (next e ∙ ap got (sym (columns-set n cs j a h)))

    pub columns-stop : {c : ℕ} {t : Float} → j < n → stopped c t ≡ last_of advance n w (homogeneous fs) (unit n j) → stopped c t ≡ columns_to advance n w fs n
    columns-stop l e = sym (stays (columns_to advance n w fs) step columns-step (suc j) n l (next e))

    pub columns-all : j ≤ n → n ≤ j → got (columns_of n cs n) ≡ columns_to advance n w fs n
    columns-all p q = rw (le_antisymm p q) at (sym so_far)
