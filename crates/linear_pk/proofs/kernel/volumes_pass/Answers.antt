-- `linear_pk::kernel::volumes_pass` meets its contract.
use mathlib.Core.Path.{◌≡◌, sym, ◌∙◌}
use mathlib.Core.Bool.{true}
use Prim.Native.Nat.{ℕ}
use native.Mathlib.Omega.{arith}
use Rattle.linear_pk.specs.LinearPk.{compartments_pass, state_count}
use Rattle.linear_pk.specs.declared.kernel.LinearPk.{LinearPk}
use Rattle.linear_pk.proofs.Counted.{no_states, some_states, few_volumes, volumes_by}
use Rattle.linear_pk.proofs.kernel.volumes_pass.Goals as goal

-- states say that the count passes
counts : (k : LinearPk) {n : ℕ} → n ≡ state_count k → (n ≡ 0 → ⊥) → compartments_pass k ≡ true
counts k e n = some_states k (λ z. n (e ∙ z))

pub returns : goal.returns
returns c = sym (volumes_by c.args.kernel (counts _ c.state_count.ensures.0 c.if-state_count-eq0.false) c.all_positive.ensures)

pub returns-then-state_count-eq0 : goal.returns-then-state_count-eq0
returns-then-state_count-eq0 c = rw (no_states _ (sym c.state_count.ensures.0 ∙ c.if-state_count-eq0.true))

pub shared_ref_as_front-all_positive : goal.shared_ref_as_front-all_positive
shared_ref_as_front-all_positive c = omega (arith, few_volumes c.args.kernel (counts _ c.state_count.ensures.0 c.if-state_count-eq0.false))
