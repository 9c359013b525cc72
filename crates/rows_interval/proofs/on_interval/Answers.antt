-- `rows_interval::on_interval` meets its contract.
use mathlib.Core.Path.{sym, ◌∙◌}
use lib.Ieee.{of_bits}
use Rattle.std.proofs.lemmas.Result.{err_from_is_err_and}
use Rattle.rows.specs.Lent.{cells_of}
use Rattle.rows.specs.Legs.{moves, rates_of}
use Rattle.rows_interval.proofs.Interval.{interval-refused, interval_fits, interval-stops, interval-few, interval_arrives}
use Rattle.rows_interval.proofs.on_interval.Goals as goal

pub returns-then-not-all_finite-clause-ran : goal.returns-then-not-all_finite-clause-ran
unfolding of_bits
returns-then-not-all_finite-clause-ran c =
    let g = c.args in
    rw c.stopped_by.ensures (interval-refused (moves g.leg.now) g.leg.now.n g.start g.leg.now.t (rates_of g.leg.now) g.u
    g.samples.now (cells_of g.rows.now) (sym c.all_finite.ensures
    ∙ c.if-not-all_finite.true))

pub read_all-requires : goal.read_all-requires
read_all-requires c =
    let g = c.args in
    interval_fits (moves g.leg.now) g.leg.now.n g.start g.leg.now.t (rates_of g.leg.now) g.u g.samples.now
    (cells_of g.rows.now) (sym c.all_finite.ensures
    ∙ c.if-not-all_finite.false) c.requires

pub returns-in_err-p-clause-ran : goal.returns-in_err-p-clause-ran
returns-in_err-p-clause-ran c =
    let g = c.args in
    let e = err_from_is_err_and c.from_residual.result c.from_residual.ensures.1 in
    rw (e.1, e.2) (interval-stops (moves g.leg.now) g.leg.now.n g.start g.leg.now.t (rates_of g.leg.now) g.u g.samples.now
    (cells_of g.rows.now) (sym c.all_finite.ensures
    ∙ c.if-not-all_finite.false) c.in_err-p.ensures.ran)

pub arrive-requires : goal.arrive-requires
arrive-requires c =
    let g = c.args in
    interval-few (moves g.leg.now) g.leg.now.n g.start g.leg.now.t (rates_of g.leg.now) g.u
    g.samples.now (cells_of g.rows.now) (sym c.all_finite.ensures
    ∙ c.if-not-all_finite.false) c.in_ok-p.ensures.ran c.requires

pub returns-clause-ran : goal.returns-clause-ran
returns-clause-ran c =
    let g = c.args in
    interval_arrives (moves g.leg.now) g.leg.now.n g.start g.leg.now.t (rates_of g.leg.now) g.u g.samples.now
    (cells_of g.rows.now) (sym c.all_finite.ensures
    ∙ c.if-not-all_finite.false) c.in_ok-p.ensures.ran (c.arrive.ensures _)
