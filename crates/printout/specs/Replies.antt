-- What the code replies of a printout, and what the output then holds. Definitions only.
use Rattle.std.specs.Prelude.{◌≡◌, List, ℕ, Float}
use Rattle.binary64.specs.Doubles.{plus_zero}
use Rattle.refusal.specs.Numbers.{reply_number}
use Rattle.printout.specs.Printout.{refused_text}
use Rattle.printout.specs.Cells.{printed, printed_length}
use Rattle.printout.specs.Printouts.{Printout, number_into}
use Rattle.printout.specs.declared.PrintReply.{PrintReply}

pub record Prints (p : Printout) (old : List ℕ) (r : PrintReply) (new : List ℕ) : Type 0 where
  pub number : reply_number r.reply ≡ number_into old p
  pub length : r.length ≡ printed_length p.text old
  pub cells : new ≡ printed p.text old

-- a refusal, and its time
abbrev pub refused_at : ℕ → Float → Printout
refused_at c t = record { number = c; text = refused_text c t }

-- ahead of the run
abbrev pub refusal : ℕ → Printout
refusal c = refused_at c plus_zero

-- no refusal
abbrev pub answer : List ℕ → Printout
answer text = record { number = 0; text = text }
