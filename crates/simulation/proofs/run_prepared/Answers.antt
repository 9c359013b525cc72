-- `simulation::run_prepared` meets its contract.
use mathlib.Core.Path.{◌∙◌}
use Rattle.simulation.proofs.Whole.{few-events, few-samples, room_to_clear, none_refused, room_to_run, room_again, stopped, reached}
use Rattle.simulation.proofs.run_prepared.Goals as goal

pub clear-requires : goal.clear-requires
clear-requires c =
    let g = c.args in
    let r = g.rows.now in
    room_to_clear g.kernel g.initial g.window g.samples.now g.events.now r.times.now r.sides.now r.values.now c.requires
    c.state_count-n.ensures.0 c.reckoned_rows-reckoned.ensures

pub on_schedule-run-requires : goal.on_schedule-run-requires
on_schedule-run-requires c =
    let g = c.args in
    let r = g.rows.now in
    let es = g.events.now in
    let e = c.state_count-n.ensures in
    let z = c.clear.ensures in (
      e.1,
      few-events g.kernel g.initial g.window g.samples.now es r.times.now r.sides.now r.values.now c.requires,
      few-samples g.kernel g.initial g.window g.samples.now es r.times.now r.sides.now r.values.now c.requires,
      none_refused g.kernel g.initial g.window g.samples.now es r.times.now r.sides.now r.values.now c.requires e.0 c.reckoned_rows-reckoned.ensures,
      room_to_run g.kernel g.initial g.window g.samples.now es r.times.now r.sides.now r.values.now c.requires e.0
          c.reckoned_rows-reckoned.ensures z.times_after z.sides_after z.values_after,
    )

pub clear-requires-in-Err : goal.clear-requires-in-Err
clear-requires-in-Err c =
    let g = c.args in
    let r = g.rows.now in
    let z = c.clear.ensures in
    let o = c.on_schedule-run.ensures in
    room_again g.kernel g.initial g.window g.samples.now g.events.now r.times.now r.sides.now r.values.now c.requires
    c.state_count-n.ensures.0 c.reckoned_rows-reckoned.ensures z.times_after z.sides_after z.values_after (o.prepared, o.ran)

pub returns-in-Err : goal.returns-in-Err
returns-in-Err c =
    let g = c.args in
    let r = g.rows.now in
    let z = c.clear.ensures in
    let o = c.on_schedule-run.ensures in
    let y = c.clear-in-Err.ensures in
    let w = stopped g.kernel g.initial g.window g.samples.now g.events.now r.times.now r.sides.now r.values.now c.requires
    c.state_count-n.ensures.0 c.reckoned_rows-reckoned.ensures z.times_after z.sides_after z.values_after (o.prepared, o.ran)
    y.times_after y.sides_after y.values_after _ c.in-Err.is in
    record {
      result_value = w.0;
      times_after = w.1.0;
      sides_after = w.1.1.0;
      values_after = w.1.1.1;
      slices = (
        y.slices.0 ∙ o.slices.0 ∙ z.slices.0,
        y.slices.1 ∙ o.slices.1 ∙ z.slices.1,
        y.slices.2 ∙ o.slices.2 ∙ z.slices.2,
      );
    }

pub returns-in-Ok : goal.returns-in-Ok
returns-in-Ok c =
    let g = c.args in
    let r = g.rows.now in
    let z = c.clear.ensures in
    let o = c.on_schedule-run.ensures in
    let w = reached g.kernel g.initial g.window g.samples.now g.events.now r.times.now r.sides.now r.values.now c.requires
    c.state_count-n.ensures.0 c.reckoned_rows-reckoned.ensures z.times_after z.sides_after z.values_after (o.prepared, o.ran) _ c.in-Ok.is in
    record {
      result_value = w.0;
      times_after = w.1.0;
      sides_after = w.1.1.0;
      values_after = w.1.1.1;
      slices = (o.slices.0 ∙ z.slices.0, o.slices.1 ∙ z.slices.1, o.slices.2 ∙ z.slices.2);
    }
