-- `replay_answers::kept::kept_numbers` meets its contract.
use Rattle.std.proofs.Common.{◌≤◌, refl, length, sym, ap, ◌∙◌, eqb, lit≤, arith, length-append, rules, tests}
use Rattle.std.proofs.lemmas.Iterator.Splits.{YieldsList-from_slice_split}
use Rattle.std.proofs.lemmas.Iterator.Consumers.{YieldsList-turn, YieldsList-end}
use Rattle.std.proofs.lemmas.List.{length_push, at_drop_all}
use Rattle.std.proofs.lemmas.Result.{err_from_is_err_and}
use Rattle.replay_answers.specs.Words.{at_most_long}
use Rattle.replay_answers.proofs.Behind.{behind, behind_none_read, behind_all, behind_more, behind_stops, within, too_long, none_long}
use Rattle.replay_answers.proofs.kept.kept_numbers.Goals as goal

pub loop-word-init : goal.loop-word-init
loop-word-init c = rw c.new-numbers.ensures (behind_none_read _, lit≤ tt)

pub returns-in_err-number : goal.returns-in_err-number
returns-in_err-number c =
    let t = YieldsList-turn (YieldsList-from_slice_split {s = c.into_iter-word-iterator.result} _ (λ b. eqb b 32) c.args.line.now (cc) (cc) (cc) (λ x b q k. search (rules, tests)))
    c.loop-word.yielded _ c.loop-word.yielded_by _ _ c.in-Some.word c.in-Some.is c.next.ensures.steps in
    let p = err_from_is_err_and c.from_residual.result c.from_residual.ensures.1 in
    let e = sym c.loop-word.invariant.0 ∙ behind_stops c.loop-word.numbers.items _ _ _ t c.in_err-number.ensures.1 in
    rw (p.1, p.2) (c.in_err-number.ensures.0, ap (at_most_long 256) e ∙ none_long 256)

pub returns-then-is_full : goal.returns-then-is_full
returns-then-is_full c =
    let t = YieldsList-turn (YieldsList-from_slice_split {s = c.into_iter-word-iterator.result} _ (λ b. eqb b 32) c.args.line.now (cc) (cc) (cc) (λ x b q k. search (rules, tests)))
    c.loop-word.yielded _ c.loop-word.yielded_by _ _ c.in-Some.word c.in-Some.is c.next.ensures.steps in
    let e = sym c.loop-word.invariant.0 ∙ behind_more c.loop-word.numbers.items _ _ _ _ t c.in_ok-number.ensures in
    (refl, ap (at_most_long 256) e ∙ too_long 256 _ _ (grind (arith, c.if-is_full.ensures.value, length-append)))

pub loop-word-preserved : goal.loop-word-preserved
loop-word-preserved c =
    let t = YieldsList-turn (YieldsList-from_slice_split {s = c.into_iter-word-iterator.result} _ (λ b. eqb b 32) c.args.line.now (cc) (cc) (cc) (λ x b q k. search (rules, tests)))
    c.loop-word.yielded _ c.loop-word.yielded_by _ _ c.in-Some.word c.in-Some.is c.next.ensures.steps in
    let room : length c.push.new.self.items ≤ 256 = grind (arith, c.push.ensures.len, c.loop-word.invariant.1, c.if-is_full.ensures.value) in (
      rw (
        c.push.ensures.items,
        length_push c.loop-word.yielded c.in-Some.word,
        ← behind_more c.loop-word.numbers.items _ _ _ _ t c.in_ok-number.ensures,
      ) c.loop-word.invariant.0,
      room,
    )

pub returns : goal.returns
returns c =
    let t = YieldsList-end (YieldsList-from_slice_split {s = c.into_iter-word-iterator.result} _ (λ b. eqb b 32) c.args.line.now (cc) (cc) (cc) (λ x b q k. search (rules, tests)))
    c.loop-word.yielded _ c.loop-word.yielded_by _ _ c.in-None.is c.next.ensures.steps in
    let e = sym c.loop-word.invariant.0 ∙ at_drop_all (behind c.loop-word.numbers.items) _ (length c.loop-word.yielded) (omega (arith, t.1)) ∙ behind_all _ in
    ap (at_most_long 256) e ∙ within 256 _ c.loop-word.invariant.1
