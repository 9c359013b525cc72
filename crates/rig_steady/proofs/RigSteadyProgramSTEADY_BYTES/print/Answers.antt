-- Every printout has room.
use Rattle.rig_steady_sheet.proofs.Most.{every_steady_printout_fits}
use Rattle.rig_streams.proofs.Written.{whole}
use Rattle.rig_steady.proofs.RigSteadyProgramSTEADY_BYTES.print.Goals as goal

pub returns : goal.returns
returns c = whole _ _ _ _ c.told-out (every_steady_printout_fits c.args.sheet.now) c.steady_sheet.ensures.length_value c.steady_sheet.ensures.out_after
