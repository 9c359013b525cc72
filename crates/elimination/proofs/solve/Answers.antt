use mathlib.Core.Path.{◌≡◌, refl, sym, ap, ◌∙◌}
use mathlib.Core.Bool.{not}
use mathlib.Core.List.{[]}
use native.Mathlib.Omega.{arith}
use borrow.Author.Rules.{rules}
use lib.ListN.{length}
use lib.Ieee.{nan}
use Rattle.refusal.specs.Result.{done}
use Rattle.limits.specs.Limits.{states}
use Rattle.cycle.specs.Elimination.{eliminate_to, reduced_cell, reduced_right}
use Rattle.elimination_system.specs.Systems.{held}
use Rattle.matrix.proofs.Filled.{tabulate-front}
use Rattle.elimination_steps.proofs.Exchanges.{swapped-is}
use Rattle.elimination_steps.proofs.Tables.{table-made, reduced-lead, right-lead}
use Rattle.elimination.proofs.Columns.{column_refused, column-more, solve-refused, solve-done}
use Rattle.elimination.proofs.solve.Goals as goal

pub loop-k-init : goal.loop-k-init
unfolding eliminate_to
loop-k-init c = (refl, refl)

pub returns-then-not-passes : goal.returns-then-not-passes
returns-then-not-passes c =
    let pivot = rw c.loop-k.invariant.0 at c.pivot_row-p.ensures in
    sym (solve-refused _ _ _ c.least_pivot-least.ensures
    (column_refused _ _ _ _ _ _ _ c.loop-k-test.true c.loop-k.invariant.1 pivot c.at.ensures
    c.passes.ensures (ap not c.if-not-passes.true)))

pub loop-k-preserved : goal.loop-k-preserved
loop-k-preserved c =
    let n = c.args.n in
    let k = c.loop-k.k in
    let a = c.loop-k.system.1.0 in
    let u = c.swap.new.self in
    let v = c.swap-in-loop-k.new.self in
    let pivot = rw c.loop-k.invariant.0 at c.pivot_row-p.ensures in
    let long : length a ≡ 4 = search rules in
    let rows = c.swap.ensures.after ∙ swapped-is [] a k c.pivot_row-p.result (omega arith) (omega arith) in
    let side = c.swap-in-loop-k.ensures.after ∙ swapped-is nan c.loop-k.system.1.1.0 k c.pivot_row-p.result (omega arith) (omega arith) in
    let made = table-made n (reduced_cell u k) _ c.requires c.reduced-system-in-loop-k.ensures (reduced-lead n u k) in
    let reduced = tabulate-front _ (reduced_right (held n u v) k) states n c.requires c.reduced-system.ensures (λ i l. sym (right-lead n u v k i l)) in (
      c.loop-k.invariant.0,
      column-more _ _ _ _ _ _ _ c.loop-k-test.true c.loop-k.invariant.1 pivot _ _ c.requires c.at.ensures c.passes.ensures
          (ap not c.if-not-passes.false) (rows, long) side reduced made,
    )

pub returns : goal.returns
returns c =
    let solved = rw c.loop-k.invariant.0 at c.solved.ensures in
    sym (solve-done _ _ _ c.least_pivot-least.ensures c.loop-k.auto.k-end c.loop-k-test.false c.loop-k.invariant.1 ∙ ap done (sym solved))
