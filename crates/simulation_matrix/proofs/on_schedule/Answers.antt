-- `simulation_matrix::on_schedule` meets its contract.
use mathlib.Core.Path.{◌≡◌}
use lib.ListN.{take}
use lib.Ieee.{of_bits}
use Rattle.protocol.specs.Schedule.{schedule}
use Rattle.protocol.specs.Events.{boundaries, sorted_unique}
use Rattle.rows.specs.Lent.{cells_of}
use Rattle.simulation_matrix.proofs.Whole.{prepared_of, some_boundary, schedule_fits}
use Rattle.simulation_matrix.proofs.on_schedule.Goals as goal

pub over_boundaries-requires : goal.over_boundaries-requires
unfolding schedule of_bits
over_boundaries-requires c =
    let g = c.args in
    let es = g.events.now in
    let b : take c.boundaries-reached.result c.boundaries-reached.new.bounds ≡ boundaries g.window es = cc in
    let d : c.as_slice.result.now ≡ sorted_unique g.samples.now = cc in
    let p = prepared_of g.n g.window g.samples.now es c.distinct.ensures.1 c.boundaries-reached.ensures.2 c.requires.3 in (
      c.requires.1,
      rw b (some_boundary g.window es),
      rw (
        b,
        d,
      ) (schedule_fits g.n g.window g.samples.now es g.initial (cells_of g.rows.now)
          c.requires.0 c.requires.1 c.requires.2 p c.requires.4),
    )

pub returns-clause-prepared : goal.returns-clause-prepared
returns-clause-prepared c =
    let g = c.args in
    prepared_of g.n g.window g.samples.now g.events.now c.distinct.ensures.1 c.boundaries-reached.ensures.2 c.requires.3

pub returns-clause-ran : goal.returns-clause-ran
unfolding schedule of_bits
returns-clause-ran c =
    let g = c.args in
    let es = g.events.now in
    let b : take c.boundaries-reached.result c.boundaries-reached.new.bounds ≡ boundaries g.window es = cc in
    let d : c.as_slice.result.now ≡ sorted_unique g.samples.now = cc in
    rw (b, d) at c.over_boundaries.ensures.ran
