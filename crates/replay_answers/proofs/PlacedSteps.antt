-- What one line makes of the counts by place, by whether it is a comment.
use Rattle.std.proofs.Common.{◌≡◌, ℕ, true, false, List, Result, Ok, Err}
use Rattle.std.specs.Result.{result_ok}
use Rattle.replay_answers.specs.declared.error.NoCall.{NoCall}
use Rattle.replay_answers.specs.declared.tally.Called.{Called}
use Rattle.replay_answers.specs.Tally.{is_comment}
use Rattle.replay_answers.specs.Placed.{PlacedCounts, placed_skipped, placed_answered, PlacedCameTo, PlacedCounted}

placed_came_to : {E : Type 0} (place : E → ℕ) (gives : List ℕ → Result (Called E) NoCall → Type 0) (line : List ℕ) (r : Result (Called E) NoCall)
    → gives line r → PlacedCameTo place gives line (result_ok r)
placed_came_to place gives line (Ok called) h = h
placed_came_to place gives line (Err _) h = h

module _ {E : Type 0} (place : E → ℕ) (gives : List ℕ → Result (Called E) NoCall → Type 0) (a : PlacedCounts) (line : List ℕ) {b : PlacedCounts} where
  pub placed_comment : is_comment line ≡ true → b ≡ placed_skipped a → PlacedCounted place gives a line b
  placed_comment e h = rw e h

  pub placed_answer : (r : Result (Called E) NoCall) → is_comment line ≡ false → gives line r → b ≡ placed_answered place (result_ok r) a
      → PlacedCounted place gives a line b
  placed_answer r e h s = rw e (result_ok r, placed_came_to place gives line r h, s)
