-- What a call gives that reads part of a line. Definitions only.
use Rattle.std.specs.Prelude.{◌≡◌, Option, Some, None, Result, MatchResult}
use Rattle.replay_answers.specs.declared.error.LineError.{LineError}
use Rattle.replay_answers.specs.declared.error.LineError.TheVariants.{Malformed}

-- the definition's value, as `shown`; refused as malformed where the definition has none
abbrev pub Gives : {A B : Type 0} → (A → B) → Result A LineError → Option B → Type 0
Gives shown result value = MatchResult result (λ x. value ≡ Some (shown x)) (λ e. (e ≡ Malformed) × (value ≡ None))

-- the same of a call that may run out of memory, whatever the definition says
abbrev pub GivesInMemory : {A B : Type 0} → (A → B) → Result A LineError → Option B → Type 0
GivesInMemory shown result value = MatchResult result (λ x. value ≡ Some (shown x)) (λ e. e ≡ Malformed → value ≡ None)
