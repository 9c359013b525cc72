-- `steady_sheet` ensures demand 3 of what its call leaves.
use Rattle.theorem_calls.proofs.Shown.{shown}
use Rattle.theorem_calls.proofs.steady_sheet.Goals as goal

pub returns : goal.returns
returns c = shown _ _ _ _ _ c.steady_sheet.ensures.reply_value c.steady_sheet.ensures.length_value c.steady_sheet.ensures.out_after
