-- `printout::reply_of` meets its contract.
use mathlib.Core.Path.{◌≡◌, refl, sym, ap, ◌∙◌}
use mathlib.Core.Bool.{Bool, cond, ◌&&◌}
use native.Mathlib.Omega.{arith}
use borrow.Author.Tests.{ne_eqb}
use lib.Dec.{eqb}
use Rattle.std.specs.Prelude.{Ok, Err}
use Rattle.std.specs.Result.{is_ok}
use Rattle.refusal.specs.Numbers.{Reply, refusal_number, reply_number}
use Rattle.refusal.proofs.Numbers.{refusal-number}
use Rattle.printout.proofs.reply_of.Goals as goal

-- a refusal's number is not 0
ok_number : (r : Reply) → eqb (reply_number r) 0 ≡ is_ok r
ok_number (Ok u) = refl
ok_number (Err x) = ne_eqb (refusal_number x) 0 (λ e. omega (arith, e, refusal-number x))

pub returns-then-is_ok-length : goal.returns-then-is_ok-length
returns-then-is_ok-length c =
    let g = c.args in
    let t = ap (λ (b : Bool). b && eqb g.length 0) (ok_number g.reply ∙ sym c.is_ok.ensures.value) ∙ c.if-is_ok-length.true in
    (ap (λ (b : Bool). cond b 4 (reply_number g.reply)) (sym t), refl)

pub returns : goal.returns
returns c =
    let g = c.args in
    let t = ap (λ (b : Bool). b && eqb g.length 0) (ok_number g.reply ∙ sym c.is_ok.ensures.value) ∙ c.if-is_ok-length.false in
    (ap (λ (b : Bool). cond b 4 (reply_number g.reply)) (sym t), refl)
