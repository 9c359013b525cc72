-- `replay_answers::entries::tally_lines` meets its contract.
use Rattle.std.proofs.Common.{refl, sym, ◌∙◌}
use Rattle.std.specs.Fn.{FnReturnsAt}
use Rattle.std.proofs.lemmas.Fn.{FoldsTo-push, says_at}
use Rattle.replay_answers.specs.Placed.{placed_counts_of}
use Rattle.replay_answers.proofs.PlacedSteps.{placed_comment, placed_answer}
use Rattle.replay_answers.proofs.entries.tally_lines.Goals as goal

pub loop-line-preserved-then-is_comment : goal.loop-line-preserved-then-is_comment
loop-line-preserved-then-is_comment g c =
    FoldsTo-push _ _ _ _ _ _ c.loop-line.invariant
    (placed_comment g.E.Placed.place_of (λ text r. FnReturnsAt g.F.Fn c.args.call text r) (placed_counts_of c.loop-line.tally) c.in-Some.line.now
    (sym c.is_comment.ensures ∙ c.if-is_comment.true) c.skipped-tally.ensures)

pub loop-line-preserved : goal.loop-line-preserved
loop-line-preserved g c =
    FoldsTo-push _ _ _ _ _ _ c.loop-line.invariant
    (placed_answer g.E.Placed.place_of (λ text r. FnReturnsAt g.F.Fn c.args.call text r) (placed_counts_of c.loop-line.tally) c.in-Some.line.now c.call.result
    (sym c.is_comment.ensures ∙ c.if-is_comment.false) (says_at g.F.Fn c.call.ensures refl) (rw (← c.ok.ensures.value) c.added-tally.ensures))
