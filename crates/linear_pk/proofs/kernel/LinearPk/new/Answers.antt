-- `linear_pk::kernel::LinearPk::new` meets its contract.
use mathlib.Core.Path.{◌∙◌}
use mathlib.Core.Bool.{false}
use borrow.Author.Tests.{eq-eqb, ne_eqb}
use Rattle.linear_pk.proofs.Cases.{new-refused, new-made, passes_none, passes_many, passes-by}
use Rattle.linear_pk.proofs.kernel.LinearPk.new.Goals as goal

pub returns-then-count-eq0 : goal.returns-then-count-eq0
returns-then-count-eq0 c =
    rw (new-refused _ _ _ _ (passes_none _ _ _ _ c.if-count-eq0.true))

pub returns-then-count-gt-VOLUMES : goal.returns-then-count-gt-VOLUMES
returns-then-count-gt-VOLUMES c =
    rw (new-refused _ _ _ _ (passes_many _ _ _ _ c.if-count-gt-VOLUMES.true))

pub returns-then-exchange-count : goal.returns-then-exchange-count
returns-then-exchange-count c =
    rw (new-refused _ _ _ _ (passes-by c.args.clearance c.args.volumes.now c.args.exchange.now
    c.args.absorption {b = false} c.if-count-eq0.false c.if-count-gt-VOLUMES.false
    (rw (ne_eqb _ _ c.if-exchange-count.true))))

pub returns-then-not-values_pass : goal.returns-then-not-values_pass
returns-then-not-values_pass c =
    rw (new-refused _ _ _ _ (passes-by c.args.clearance c.args.volumes.now c.args.exchange.now
    c.args.absorption {b = c.values_pass.result} c.if-count-eq0.false c.if-count-gt-VOLUMES.false
    (rw (eq-eqb _ _ c.if-exchange-count.false) c.values_pass.ensures)
    ∙ c.if-not-values_pass.true))

pub returns-else-matrix_finite : goal.returns-else-matrix_finite
returns-else-matrix_finite c =
    rw (
      new-made _ _ _ _ (passes-by c.args.clearance c.args.volumes.now c.args.exchange.now
          c.args.absorption {b = c.values_pass.result} c.if-count-eq0.false c.if-count-gt-VOLUMES.false
          (rw (eq-eqb _ _ c.if-exchange-count.false) c.values_pass.ensures)
          ∙ c.if-not-values_pass.false) c.kernel_of-kernel.ensures c.matrix_finite.ensures,
      c.if-matrix_finite.false,
    )

pub returns-then-matrix_finite : goal.returns-then-matrix_finite
returns-then-matrix_finite c =
    rw (
      new-made _ _ _ _ (passes-by c.args.clearance c.args.volumes.now c.args.exchange.now
          c.args.absorption {b = c.values_pass.result} c.if-count-eq0.false c.if-count-gt-VOLUMES.false
          (rw (eq-eqb _ _ c.if-exchange-count.false) c.values_pass.ensures)
          ∙ c.if-not-values_pass.false) c.kernel_of-kernel.ensures c.matrix_finite.ensures,
      c.if-matrix_finite.true,
    )
