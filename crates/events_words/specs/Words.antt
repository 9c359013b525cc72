-- Events as 64-bit words, six to an event: 01, "The sheet and its printout". Words that a kind lacks are 0. Definitions only.
use Rattle.std.specs.Prelude.{cond, List, [], ◌∷◌, ℕ}
use Rattle.binary64.specs.Lists.{flat_map}
use Rattle.printout_numbers.specs.Digits.{bits_of}
use Rattle.protocol.specs.declared.Event.{Event}
use Rattle.protocol.specs.declared.Event.TheVariants.{Bolus, Infusion, Reset}

unfoldable pub event_words : Event → List ℕ
event_words (Bolus t i a) = 0 ∷ bits_of t ∷ i ∷ bits_of a ∷ 0 ∷ 0 ∷ []
event_words (Infusion t i a d) = 1 ∷ bits_of t ∷ i ∷ bits_of a ∷ bits_of d ∷ 0 ∷ []
event_words (Reset t i v o c) = 2 ∷ bits_of t ∷ i ∷ bits_of v ∷ o ∷ cond c 1 0 ∷ []

-- one event behind the other
abbrev pub list_words : List Event → List ℕ
list_words es = flat_map event_words es
