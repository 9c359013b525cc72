use native.Mathlib.Omega.{arith}
use Rattle.matrix.specs.Exponential.{series}
use Rattle.matrix.proofs.Steps.{term-more, sum_more}
use Rattle.exponential_series.proofs.series.Goals as goal

pub loop-k-init : goal.loop-k-init
unfolding series
loop-k-init c = (omega arith, c.identity-term.ensures, c.identity-term.ensures)

pub loop-k-preserved : goal.loop-k-preserved
loop-k-preserved c =
    let l = c.loop-k in
    let t = term-more c.args.m c.requires l.k c.args.a.now l.invariant.1 c.next_term.ensures in
    (omega arith, t, sum_more c.args.m c.requires l.k _ l.invariant.2 t c.add_term.ensures)
