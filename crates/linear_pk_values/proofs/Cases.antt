-- The definition in the words of the code.
use mathlib.Core.Path.{◌≡◌, refl, ap}
use mathlib.Core.Bool.{Bool, true, false}
use mathlib.Core.List.{List}
use Prim.Native.Nat.{ℕ, ◌+◌, ◌≤◌}
use lib.Dec.{leb}
use lib.ListN.{length, take}
use lib.Seq.{length-take-le, get_or-take}
use lib.Ieee.{Float, nan, binary64, div}
use lib.Ieee.Scale.{finite}
use Rattle.matrix.specs.Matrix.{cell, tabulate}
use Rattle.binary64.specs.Lists.{all, amounts_pass}
use Rattle.refusal.specs.Result.{and_then, unless}
use Rattle.linear_pk_mammillary.specs.Rates.{central}
use Rattle.linear_pk_values.specs.Concentrations.{concentration, concentrations}
use Rattle.matrix.proofs.Filled.{tabulate_cong}

module _ (n v : ℕ) (depot : Bool) (vs x : List Float) where
  pub concentrations-are :
      (room : ℕ) {b c : Bool} {y : List Float} → b ≡ amounts_pass n x → y ≡ tabulate v (concentration depot vs x) → c ≡ all finite y
      → concentrations n v depot vs x room ≡ and_then (unless b 3 x) (λ _. and_then (unless (leb v room) 4 y) (λ _. unless c 23 y))
  unfolding concentrations
  concentrations-are room {b} {c} {y} e f g = rw (← e, ← f) (on b (leb v room))
    where
      on : (b l : Bool) → and_then (unless b 3 x) (λ _. and_then (unless l 4 y) (λ y. unless (all finite y) 23 y))
          ≡ and_then (unless b 3 x) (λ _. and_then (unless l 4 y) (λ _. unless c 23 y))
      on false l = refl
      on true false = refl
      on true true = rw g

-- the volumes in use alone are read
pub concentrations-front :
    (v : ℕ) (depot : Bool) (vs x : List Float) (room : ℕ) → v ≤ length vs
    → concentrations (length (take v vs) + central depot) (length (take v vs)) depot (take v vs) x room
    ≡ concentrations (v + central depot) v depot vs x room
unfolding concentrations
concentrations-front v depot vs x room h =
    let q : tabulate v (concentration depot (take v vs) x) ≡ tabulate v (concentration depot vs x) =
    tabulate_cong v (λ i b. ap (div binary64 (cell x (i + central depot))) (get_or-take v vs i nan b)) in
    rw (length-take-le v vs h, q) refl
