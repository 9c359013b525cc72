-- `periodic_next::simulate_cycle` meets its contract.
use mathlib.Core.Path.{ap, ◌∙◌}
use native.Mathlib.Omega.{arith}
use Prim.Native.Nat.{ℕ, ◌≤◌}
use Rattle.linear_pk.specs.LinearPk.{state_count}
use Rattle.cycle.specs.Closed.{divided}
use Rattle.periodic_next.proofs.LastRow.{is-ok, some_row, place_fits, cycle-ends}
use Rattle.limits.specs.Limits.{states}
use Rattle.periodic_next.proofs.simulate_cycle.Goals as goal

pub unwrap-reached-requires : goal.unwrap-reached-requires
unwrap-reached-requires c =
    let g = c.args in
    let q = c.state_count-n.ensures in
    let d = c.divided-span.ensures ∙ ap (λ (j : ℕ). divided j g.window) q.0 in
    let m : state_count g.kernel ≤ states = rw q.0 at q.1 in
    is-ok g.kernel g.window g.events.now g.amounts.now c.requires.0 m g.rows.now.values.now
    c.requires.1 c.requires.2 c.requires.3 d c.simulate.result c.simulate.ensures.result_value

pub overflow_sub-result : goal.overflow_sub-result
overflow_sub-result c =
    let g = c.args in
    let q = c.state_count-n.ensures in
    let d = c.divided-span.ensures ∙ ap (λ (j : ℕ). divided j g.window) q.0 in
    let m : state_count g.kernel ≤ states = rw q.0 at q.1 in
    omega (
      arith,
      some_row g.kernel g.window g.events.now g.amounts.now c.requires.0 m g.rows.now.values.now
          c.requires.1 c.requires.2 c.requires.3 d (rw c.unwrap-reached.ensures at c.simulate.ensures.result_value),
    )

pub overflow_mul-result : goal.overflow_mul-result
overflow_mul-result c =
    let g = c.args in
    let q = c.state_count-n.ensures in
    let d = c.divided-span.ensures ∙ ap (λ (j : ℕ). divided j g.window) q.0 in
    let m : state_count g.kernel ≤ states = rw q.0 at q.1 in
    rw q.0 (omega (
      arith,
      place_fits g.kernel g.window g.events.now g.amounts.now c.requires.0 m
          g.rows.now.values.now c.requires.1 c.requires.2 c.requires.3 d (rw c.unwrap-reached.ensures at c.simulate.ensures.result_value),
    ))

pub returns-clause-end : goal.returns-clause-end
returns-clause-end c =
    let g = c.args in
    let q = c.state_count-n.ensures in
    let d = c.divided-span.ensures ∙ ap (λ (j : ℕ). divided j g.window) q.0 in
    let m : state_count g.kernel ≤ states = rw q.0 at q.1 in
    rw q.0 (cycle-ends g.kernel g.window g.events.now g.amounts.now c.requires.0 m g.rows.now.values.now
    c.requires.1 c.requires.2 c.requires.3 d (rw c.unwrap-reached.ensures at c.simulate.ensures.result_value)
    c.simulate.ensures.values_after)
