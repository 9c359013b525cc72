-- `events_words::put_event` meets its contract.
use mathlib.Core.Path.{◌≡◌, refl}
use Prim.Native.Nat.{◌+◌, ◌-◌}
use native.Mathlib.Omega.{arith}
use lib.ListN.{length}
use Rattle.printout_numbers.proofs.Writing.{wrote_part}
use Rattle.protocol.specs.declared.Event.{Event}
use Rattle.protocol.specs.declared.Event.TheVariants.{Bolus, Infusion, Reset}
use Rattle.events_words.specs.Words.{event_words}
use Rattle.events_words.proofs.put_event.Goals as goal

six : (e : Event) → length (event_words e) ≡ 6
unfolding event_words
six (Bolus t i a) = refl
six (Infusion t i a d) = refl
six (Reset t i v o c) = refl

pub returns : goal.returns
returns c =
    let n = six c.args.event in
    rw n at (wrote_part c.args.at (c.args.at + 6 - c.args.at) (event_words c.args.event) c.args.out.now _ (omega arith) (omega arith) (rw c.words_of-words.ensures at c.copy_from_slice.ensures.after))
