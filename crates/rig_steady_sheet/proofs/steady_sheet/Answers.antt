-- `rig_steady_sheet::steady_sheet` meets its contract.
use mathlib.Core.Path.{ap}
use Rattle.printout.proofs.Replies.{prints_same}
use Rattle.sheet_kernel.proofs.Cycles.{bytes_refused, bytes_run}
use Rattle.printout_steady.specs.SteadyPrintout.{steady_text}
use Rattle.printout_steady.specs.SteadyReplies.{steady_printout}
use Rattle.rig_steady_cycle.specs.SheetCycle.{steady_with}
use Rattle.rig_steady_sheet.specs.SteadySheet.{steady_sheet, steady_of_bytes}
use Rattle.rig_steady_sheet.proofs.steady_sheet.Goals as goal

pub returns-in-Err : goal.returns-in-Err
unfolding steady_of_bytes steady_sheet steady_text
returns-in-Err c =
    let p = prints_same (ap steady_printout (bytes_refused steady_with _ c.in-Err.ensures)) c.print_refusal.ensures in record {
      reply_value = p.number;
      length_value = p.length;
      out_after = p.cells;
    }

pub returns-in-Ok : goal.returns-in-Ok
unfolding steady_of_bytes steady_sheet
returns-in-Ok c =
    let p = prints_same (ap steady_printout (bytes_run steady_with _ c.in-Ok.ensures)) c.steady_bodies.ensures in record {
      reply_value = p.number;
      length_value = p.length;
      out_after = p.cells;
    }
