-- `printout::print_refused` meets its contract.
use mathlib.Core.Path.{refl, ap, ◌∙◌}
use Prim.Native.Nat.{ℕ}
use Rattle.refusal.specs.Numbers.{refusal_number}
use Rattle.printout.specs.Printout.{refused_text}
use Rattle.printout.specs.Cells.{printed, printed_length}
use Rattle.printout.proofs.Replies.{refusal_some, prints}
use Rattle.printout.proofs.print_refused.Goals as goal

pub returns : goal.returns
returns c =
    let g = c.args in
    let text = λ (k : ℕ). refused_text k g.time in
    prints refl (refusal_some (refusal_number g.refusal) g.time) c.reply_of.ensures.0 c.reply_of.ensures.1
    (c.print_number-length.ensures.value ∙ ap (λ (k : ℕ). printed_length (text k) g.out.now) c.from.ensures)
    (c.print_number-length.ensures.out_after ∙ ap (λ (k : ℕ). printed (text k) g.out.now) c.from.ensures)
