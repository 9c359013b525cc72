-- `periodic_acceptance::accepted` meets its contract.
use mathlib.Core.Path.{sym, ◌∙◌}
use lib.ListN.{take}
use Rattle.std.proofs.lemmas.Result.{err_from_is_err_and}
use Rattle.simulation.specs.KernelRun.{propagator_of}
use Rattle.periodic_acceptance.proofs.Chain.{candidate-stops, run-stops, run_ends}
use Rattle.periodic_acceptance.proofs.accepted.Goals as goal

pub returns-then-not-all_nonnegative : goal.returns-then-not-all_nonnegative
returns-then-not-all_nonnegative c =
    let s = c.args.cycle.now in
    rw c.from.ensures
    (candidate-stops (propagator_of s.kernel) s.n s.window c.args.tolerance s.events.now (take s.n c.args.candidate)
    (sym c.all_nonnegative.ensures ∙ c.if-not-all_nonnegative.true))

pub returns-in_err-end : goal.returns-in_err-end
returns-in_err-end c =
    let s = c.args.cycle.now in
    let p = err_from_is_err_and c.from_residual.result c.from_residual.ensures.1 in
    rw (p.1, p.2)
    (run-stops (propagator_of s.kernel) s.n s.window c.args.tolerance s.events.now (take s.n c.args.candidate)
    (sym c.all_nonnegative.ensures ∙ c.if-not-all_nonnegative.false) c.in_err-end.ensures)

pub returns-in_err-judged : goal.returns-in_err-judged
returns-in_err-judged c =
    let s = c.args.cycle.now in
    let p = err_from_is_err_and c.from_residual-in_err-judged.result c.from_residual-in_err-judged.ensures.1 in
    rw (p.1, p.2)
    (c.in_err-judged.ensures
    ∙ run_ends (propagator_of s.kernel) s.n s.window c.args.tolerance s.events.now (take s.n c.args.candidate)
    (sym c.all_nonnegative.ensures ∙ c.if-not-all_nonnegative.false) c.in_ok-end.ensures)

pub returns : goal.returns
returns c =
    let s = c.args.cycle.now in
    c.in_ok-judged.ensures
    ∙ run_ends (propagator_of s.kernel) s.n s.window c.args.tolerance s.events.now (take s.n c.args.candidate)
    (sym c.all_nonnegative.ensures ∙ c.if-not-all_nonnegative.false) c.in_ok-end.ensures
