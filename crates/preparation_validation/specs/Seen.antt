-- A reset beside another event.
use Rattle.std.specs.Prelude.{Bool, false}
use Rattle.protocol.specs.declared.Event.{Event}
use Rattle.protocol.specs.declared.Event.TheVariants.{Bolus, Infusion, Reset}
use Rattle.protocol.specs.Prepare.{same_reset}

-- a reset whose time and order are those of this one
abbrev pub repeated : Event → Event → Bool
repeated (Bolus t i a) = λ e. false
repeated (Infusion t i a d) = λ e. false
repeated (Reset t i v o c) = same_reset t o
