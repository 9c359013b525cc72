-- The definitions case by case, in the words of the code.
use Rattle.std.specs.Prelude.{Option}
use mathlib.Core.Path.{◌≡◌, sym}
use mathlib.Core.Bool.{Bool, true, false, ◌&&◌}
use mathlib.Core.List.{List}
use Prim.Native.Nat.{ℕ, ◌<◌, ◌≤◌, ◌+◌, ◌-◌}
use native.Mathlib.Omega.{arith}
use borrow.Author.Tests.{lt-ltb, le-leb, lt-leb}
use lib.Dec.{eqb, leb}
use lib.ListN.{length, take}
use lib.Ieee.{Float}
use Rattle.limits.specs.Limits.{states, most_volumes}
use Rattle.binary64.specs.Doubles.{nonnegative}
use Rattle.binary64.specs.Lists.{amounts_pass}
use Rattle.refusal.specs.Result.{refused, done, and_then, unless}
use Rattle.matrix.specs.Exponential.{Scheme}
use Rattle.linear_pk_interval.specs.Interval.{interval}
use Rattle.linear_pk_values.specs.Concentrations.{concentrations as concentrationsOf}
use Rattle.linear_pk_values.proofs.Cases.{concentrations-front}
use Rattle.linear_pk.proofs.Counted.{states_are, sound_counted}
use Rattle.linear_pk.specs.LinearPk.{central, state_count, sound, advance, concentrations, bind, passes, parameters_pass, kernel_of, matrix_finite, new, padded}
use Rattle.linear_pk.specs.declared.kernel.LinearPk.{LinearPk}

-- ---- `advance`
module _ (s : Scheme) (k : LinearPk) (x r : List Float) (d : Float) where
  pub advance_unsound : (room : ℕ) {n : ℕ} → sound k ≡ refused n → advance s k x r d room ≡ refused n
  unfolding advance
  advance_unsound room h = rw h

  pub advance-sound :
      (room : ℕ) {b : Bool} {j : LinearPk} → sound k ≡ done j → b ≡ amounts_pass (state_count k) x && (amounts_pass (state_count k) r && nonnegative d)
      → advance s k x r d room ≡ and_then (unless b 3 x) (λ _. and_then (unless (leb (state_count k) room) 4 x) (λ _. interval s (state_count k) k.matrix x r d))
  unfolding advance
  advance-sound room h e = rw (h, ← e)

-- ---- `concentrations` and `bind`
module _ (k : LinearPk) (x : List Float) where
  pub concentrations_unsound : (room : ℕ) {n : ℕ} → sound k ≡ refused n → concentrations k x room ≡ refused n
  unfolding concentrations
  concentrations_unsound room h = rw h

  -- of the volumes in use
  pub concentrations-sound :
      (room : ℕ) {j : LinearPk} → k.compartments ≤ length k.volumes → sound k ≡ done j
      → concentrations k x room
      ≡ concentrationsOf (length (take k.compartments k.volumes) + central k.depot) (length (take k.compartments k.volumes)) k.depot
      (take k.compartments k.volumes) x room
  unfolding concentrations
  concentrations-sound room l h = rw (h, states_are k (sound_counted k h)) (sym (concentrations-front k.compartments k.depot k.volumes x room l))

  pub bind_unsound : {n : ℕ} → sound k ≡ refused n → bind k x ≡ refused n
  unfolding bind
  bind_unsound h = rw h

  pub bind-sound : {b : Bool} → sound k ≡ done k → b ≡ amounts_pass (state_count k) x → bind k x ≡ unless b 3 (record { kernel = k; initial = padded states x })
  unfolding bind
  bind-sound h e = rw (h, ← e)

-- ---- `new`
module _ (cl : Float) (vs qs : List Float) (a : Option Float) where
  pub new-refused : passes cl vs qs a ≡ false → new cl vs qs a ≡ refused 1
  unfolding new
  new-refused h = rw h

  pub new-made : {b : Bool} {k : LinearPk} → passes cl vs qs a ≡ true → k ≡ kernel_of cl vs qs a → b ≡ matrix_finite k → new cl vs qs a ≡ unless b 2 k
  unfolding new
  new-made h e f = rw (h, ← e, ← f)

  pub passes_none : length vs ≡ 0 → passes cl vs qs a ≡ false
  unfolding passes
  passes_none h = rw h

  pub passes_many : most_volumes < length vs → passes cl vs qs a ≡ false
  unfolding passes
  passes_many h = rw (lt-ltb 0 (length vs) (omega arith), lt-leb (length vs) most_volumes h)

  pub passes-by :
      {b : Bool} → (length vs ≡ 0 → ⊥) → length vs ≤ most_volumes → b ≡ eqb (length qs) (length vs - 1) && parameters_pass cl vs qs a → passes cl vs qs a ≡ b
  unfolding passes
  passes-by n h e = rw (lt-ltb 0 (length vs) (omega arith), le-leb (length vs) most_volumes h) (sym e)
