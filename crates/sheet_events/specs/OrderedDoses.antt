-- 01, "The sheet and its printout": `ordered`, +0 plus all dose amounts in list order. Definitions only.
use Rattle.std.specs.Prelude.{List, [], ◌∷◌, Float}
use Rattle.std.specs.Float.{binary64}
use Rattle.std.specs.Float.Ieee.{add}
use Rattle.binary64.specs.Doubles.{plus_zero}
use Rattle.protocol.specs.declared.Event.{Event}
use Rattle.protocol.specs.declared.Event.TheVariants.{Bolus, Infusion, Reset}

unfoldable pub plus_dose : Float → Event → Float
plus_dose s (Bolus t i a) = add binary64 s a
plus_dose s (Infusion t i a d) = add binary64 s a
plus_dose s (Reset t i v o c) = s

unfoldable pub ordered_from : Float → List Event → Float
ordered_from s [] = s
ordered_from s (e ∷ es) = ordered_from (plus_dose s e) es

abbrev pub ordered : List Event → Float
ordered es = ordered_from plus_zero es
