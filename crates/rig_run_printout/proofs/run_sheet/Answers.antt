-- `rig_run_printout::run_sheet` meets its contract.
use Rattle.printout.proofs.Replies.{prints_same}
use Rattle.rig_run_printout.proofs.Sheets.{bytes_refused, bytes_run}
use Rattle.rig_run_printout.proofs.run_sheet.Goals as goal

pub returns-in-Err : goal.returns-in-Err
returns-in-Err c =
    let p = prints_same (bytes_refused _ c.in-Err.ensures) c.print_refusal.ensures in record {
      reply_value = p.number;
      length_value = p.length;
      out_after = p.cells;
    }

pub returns-in-Ok : goal.returns-in-Ok
returns-in-Ok c =
    let p = prints_same (bytes_run _ c.in-Ok.ensures) c.run_bodies.ensures in record {
      reply_value = p.number;
      length_value = p.length;
      out_after = p.cells;
    }
