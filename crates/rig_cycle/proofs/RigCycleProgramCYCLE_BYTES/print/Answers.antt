-- Every printout has room.
use Rattle.rig_cycle_sheet.proofs.Closes.{every_cycle_printout_fits}
use Rattle.rig_streams.proofs.Written.{whole}
use Rattle.rig_cycle.proofs.RigCycleProgramCYCLE_BYTES.print.Goals as goal

pub returns : goal.returns
returns c = whole _ _ _ _ c.told-out (every_cycle_printout_fits c.args.sheet.now) c.cycle_sheet.ensures.length_value c.cycle_sheet.ensures.out_after
