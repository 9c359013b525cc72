-- What one line makes of the counts, by whether it is a comment.
use Rattle.std.proofs.Common.{◌≡◌, ℕ, true, false, List, Option, Result}
use Rattle.replay_answers.specs.declared.error.LineError.{LineError}
use Rattle.replay_answers.specs.declared.tally.Called.{Called}
use Rattle.replay_answers.specs.Tally.{Counts, skipped, answered, is_comment, CameTo, Counted}

module _ {E : Type 0} (gives : List ℕ → Result (Called E) LineError → Type 0) (a : Counts) (line : List ℕ) {b : Counts} where
  pub counted_comment : is_comment line ≡ true → b ≡ skipped a → Counted gives a line b
  counted_comment e h = rw e h

  pub counted_answer : (called : Option (Called E)) → is_comment line ≡ false → CameTo gives line called → b ≡ answered called a
      → Counted gives a line b
  counted_answer called e came h = rw e (called, came, h)
