-- `replay_answers::kept_sheet::parted` meets its contract.
use Rattle.std.proofs.Common.{◌≡◌, ◌≤◌, ◌+◌, ◌-◌, Some, None, length, drop, sym, ◌∙◌, arith, rules, tests, eqb, length-drop, refl}
use Rattle.std.proofs.lemmas.Iterator.{YieldsList-from_slice}
use Rattle.std.proofs.lemmas.Iterator.Search.{position_from_yields_List}
use Rattle.std.proofs.lemmas.Result.{err_from_is_err_and}
use Rattle.std.proofs.lemmas.Option.{cond_some}
use Rattle.std.proofs.lemmas.List.{take_all}
use Rattle.replay_answers.specs.Sheet.{parted_of}
use Rattle.replay_answers.proofs.kept_sheet.parted.Goals as goal

pub returns-in_err-at : goal.returns-in_err-at
unfolding parted_of
returns-in_err-at c =
    let p = position_from_yields_List (λ b. eqb b 59) _ _ c.position.result c.position.ensures.ran (YieldsList-from_slice c.args.text.now cc) (λ x b q k. search (rules, tests)) in
    let e = err_from_is_err_and c.from_residual.result c.from_residual.ensures.1 in
    let none : c.position.result ≡ None = grind (arith, c.in_err-at.ensures.value) in
    rw (e.1, e.2) (grind (arith, c.in_err-at.ensures.value), grind (arith, p, none))

pub returns : goal.returns
unfolding parted_of
returns c =
    let p = position_from_yields_List (λ b. eqb b 59) _ _ c.position.result c.position.ensures.ran (YieldsList-from_slice c.args.text.now cc) (λ x b q k. search (rules, tests)) in
    let some : c.position.result ≡ Some c.in_ok-at.at = grind (arith, c.in_ok-at.ensures.value) in
    let q = cond_some _ _ _ (sym p ∙ some) in
    let all : length (drop (c.in_ok-at.at + 1) c.args.text.now) ≤ length c.args.text.now - (c.in_ok-at.at + 1) = omega (arith, length-drop (c.in_ok-at.at + 1) c.args.text.now) in
    rw (q.0, q.1, take_all (length c.args.text.now - (c.in_ok-at.at + 1)) (drop (c.in_ok-at.at + 1) c.args.text.now) all) refl
