-- `rig_cycle_sheet::cycle_sheet` meets its contract.
use mathlib.Core.Path.{ap}
use Rattle.printout.proofs.Replies.{prints_same}
use Rattle.sheet_kernel.proofs.Cycles.{bytes_refused, bytes_run}
use Rattle.printout_cycle.specs.CyclePrintout.{cycle_text}
use Rattle.rig_cycle_next.specs.NextRun.{next_with}
use Rattle.rig_cycle_next.specs.NextPrintout.{cycle_printout}
use Rattle.rig_cycle_sheet.specs.CycleSheet.{next_sheet, next_of_bytes}
use Rattle.rig_cycle_sheet.proofs.cycle_sheet.Goals as goal

pub returns-in-Err : goal.returns-in-Err
unfolding next_of_bytes next_sheet cycle_text
returns-in-Err c =
    let p = prints_same (ap cycle_printout (bytes_refused next_with _ c.in-Err.ensures)) c.print_refusal.ensures in record {
      reply_value = p.number;
      length_value = p.length;
      out_after = p.cells;
    }

pub returns-in-Ok : goal.returns-in-Ok
unfolding next_of_bytes next_sheet
returns-in-Ok c =
    let p = prints_same (ap cycle_printout (bytes_run next_with _ c.in-Ok.ensures)) c.next_bodies.ensures in record {
      reply_value = p.number;
      length_value = p.length;
      out_after = p.cells;
    }
