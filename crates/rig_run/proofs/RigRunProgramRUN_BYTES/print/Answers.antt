-- Every printout has room: the number of the most rows has three digits.
use Rattle.printout.specs.Printout.{places}
use Rattle.rig_run_printout.proofs.Most.{every_printout_fits}
use Rattle.rig_streams.proofs.Written.{whole}
use Rattle.rig_run.proofs.RigRunProgramRUN_BYTES.print.Goals as goal

pub returns : goal.returns
unfolding places
returns c = whole _ _ _ _ c.told-out (every_printout_fits c.args.sheet.now) c.run_sheet.ensures.length_value c.run_sheet.ensures.out_after
