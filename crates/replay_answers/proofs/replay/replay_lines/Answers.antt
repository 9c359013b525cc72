-- `replay_answers::replay::replay_lines` meets its contract.
use Rattle.std.proofs.Common.{sym}
use Rattle.std.specs.Fn.{FnReturnsAt}
use Rattle.std.proofs.lemmas.Fn.{FoldsTo-push}
use Rattle.replay_answers.specs.Tally.{counts_of}
use Rattle.replay_answers.proofs.Steps.{counted_comment, counted_answer}
use Rattle.replay_answers.proofs.replay.replay_lines.Goals as goal
use Rattle.replay_answers.proofs.replay.replay_lines.Goals.{then-starts_with, else-starts_with+in_ok-called+in_ok-add}

pub loop-line-preserved : goal.loop-line-preserved
loop-line-preserved g c =
    let a = counts_of c.loop-line.tally in
    let line = c.in-Some.line.items in
    FoldsTo-push _ _ _ _ _ _ c.loop-line.invariant
    (elim c.if-starts_with.branch [
      | then-starts_with w ↦
          counted_comment (λ text r. FnReturnsAt g.F.Fn c.args.call text r) a line
          (sym (rw (w.if-starts_with.true, c.deref.ensures.value) at c.starts_with.ensures.value))
          (rw w.tally-is w.skip.ensures)
      | else-starts_with+in_ok-called+in_ok-add w ↦
          counted_answer (λ text r. FnReturnsAt g.F.Fn c.args.call text r) a line w.in_ok-called.field-0
          (sym (rw (w.if-starts_with.false, c.deref.ensures.value) at c.starts_with.ensures.value))
          (rw w.as_slice.ensures.value at w.in_ok-called.ensures)
          (rw w.tally-is w.in_ok-add.ensures)
    ])
