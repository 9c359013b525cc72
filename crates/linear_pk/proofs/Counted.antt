-- What a kernel's count says of its states and its volumes.
use mathlib.Core.Path.{◌≡◌, refl, sym, ◌∙◌}
use mathlib.Core.Bool.{Bool, true, false}
use Prim.Native.Nat.{ℕ, ◌+◌, ◌<◌, ◌≤◌}
use native.Mathlib.Omega.{arith}
use borrow.Author.Tests.{ltb-true, leb-true}
use lib.Dec.{ltb, leb}
use lib.ListN.{take}
use Rattle.limits.specs.Limits.{most_volumes}
use Rattle.binary64.specs.Doubles.{positive}
use Rattle.binary64.specs.Lists.{all}
use Rattle.linear_pk.specs.declared.kernel.LinearPk.{LinearPk}
use Rattle.refusal.specs.Result.{refused, done, and_then, unless}
pub use Rattle.linear_pk_values.proofs.Counts.{and_first, and_second, amounts-count}
use Rattle.linear_pk.specs.LinearPk.{compartments_pass, volumes_pass, state_count, central, sound, matrix_finite}

module _ (k : LinearPk) where
  pub some_volume : compartments_pass k ≡ true → 0 < k.compartments
  some_volume h = ltb-true 0 k.compartments (and_first (ltb 0 k.compartments) (leb k.compartments most_volumes) h)

  pub few_volumes : compartments_pass k ≡ true → k.compartments ≤ most_volumes
  few_volumes h = leb-true k.compartments most_volumes (and_second (ltb 0 k.compartments) (leb k.compartments most_volumes) h)

  pub states_are : compartments_pass k ≡ true → state_count k ≡ k.compartments + central k.depot
  unfolding state_count
  states_are h = rw h

  decided : (b : Bool) → compartments_pass k ≡ b → (state_count k ≡ 0 → compartments_pass k ≡ false) × ((state_count k ≡ 0 → ⊥) → compartments_pass k ≡ true)
  unfolding state_count
  decided true h = ((λ e. absurd (never (sym (states_are h) ∙ e))), λ n. h)
    where
      never : k.compartments + central k.depot ≡ 0 → ⊥
      never e = omega (arith, some_volume h)
  decided false h = ((λ e. h), λ n. absurd (n (rw h)))

  pub no_states : state_count k ≡ 0 → compartments_pass k ≡ false
  no_states = (decided (compartments_pass k) refl).0

  pub some_states : (state_count k ≡ 0 → ⊥) → compartments_pass k ≡ true
  some_states = (decided (compartments_pass k) refl).1

  -- with a count, the volumes in use decide
  pub volumes_by : {b : Bool} → compartments_pass k ≡ true → b ≡ all positive (take k.compartments k.volumes) → volumes_pass k ≡ b
  volumes_by h e = rw (h, ← e)

-- a sound kernel has its count
pub sound_counted : (k : LinearPk) {j : LinearPk} → sound k ≡ done j → compartments_pass k ≡ true
sound_counted k {j} h = and_first (compartments_pass k) _ (on (volumes_pass k) h)
  where
    on : (b : Bool) → and_then (unless b 1 k) (λ k. unless (matrix_finite k) 2 k) ≡ done j → b ≡ true
    on true e = refl
    on false e = absurd (no e)
      where
        no : refused 1 ≡ done j → ⊥
        no e = let z : ◌≡◌ {A = ℕ} 0 1 = cc in omega arith
