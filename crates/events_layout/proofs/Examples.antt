-- Events worked out from words: 01's bolus of 1 at 0, an infusion, a reset, and words outside the listed values.
use mathlib.Core.Path.{◌≡◌, refl}
use mathlib.Core.Bool.{true, false}
use mathlib.Core.List.{[], ◌∷◌}
use Prim.Native.Nat.{ℕ}
use lib.Ieee.{nan, of_bits}
use Rattle.binary64.specs.Doubles.{plus_zero, one, half}
use Rattle.matrix.specs.Matrix.{tabulate, all_to}
use Rattle.protocol.specs.declared.Event.TheVariants.{Bolus, Infusion, Reset}
use Rattle.events_layout.specs.Layout.{events_fit, events_of}

unfoldable opened : ℕ
unfolding events_fit events_of tabulate all_to of_bits
opened = 0

-- the words that a bolus lacks may hold anything
bolus : events_of (0 ∷ 0 ∷ 0 ∷ 0x3ff0_0000_0000_0000 ∷ 70000 ∷ 7 ∷ []) ≡ Bolus plus_zero 0 one ∷ []
unfolding opened
bolus = refl

bolus_fits : events_fit (0 ∷ 0 ∷ 0 ∷ 0x3ff0_0000_0000_0000 ∷ 70000 ∷ 7 ∷ []) ≡ true
unfolding opened
bolus_fits = refl

-- an infusion of 1 over 1/2 at 0, and a stopping reset to a NaN at 1 of the order 65,535
pair : events_of (1 ∷ 0 ∷ 2 ∷ 0x3ff0_0000_0000_0000 ∷ 0x3fe0_0000_0000_0000 ∷ 9 ∷ 2 ∷ 0x3ff0_0000_0000_0000 ∷ 3 ∷ 0xfff0_0000_0000_0001 ∷ 65535 ∷ 1 ∷ [])
    ≡ Infusion plus_zero 2 one half ∷ Reset one 3 nan 65535 true ∷ []
unfolding opened
pair = refl

order_too_large : events_fit (2 ∷ 0 ∷ 0 ∷ 0 ∷ 65536 ∷ 1 ∷ []) ≡ false
unfolding opened
order_too_large = refl

stops_neither : events_fit (2 ∷ 0 ∷ 0 ∷ 0 ∷ 65535 ∷ 2 ∷ []) ≡ false
unfolding opened
stops_neither = refl

no_kind : events_fit (3 ∷ 0 ∷ 0 ∷ 0 ∷ 0 ∷ 0 ∷ []) ≡ false
unfolding opened
no_kind = refl

part_of_one : events_fit (0 ∷ 0 ∷ 0 ∷ 0 ∷ 0 ∷ 0 ∷ 0 ∷ []) ≡ false
unfolding opened
part_of_one = refl
