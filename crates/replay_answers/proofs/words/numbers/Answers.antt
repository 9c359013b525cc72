-- `replay_answers::words::numbers` meets its contract.
use Rattle.std.proofs.Common.{length, sym, ◌∙◌, arith, lit<}
use Rattle.std.proofs.lemmas.Iterator.Splits.{YieldsList-from_str_split}
use Rattle.std.proofs.lemmas.Iterator.Consumers.{YieldsList-turn, YieldsList-end}
use Rattle.std.proofs.lemmas.List.{length_push, at_drop_all}
use Rattle.std.proofs.lemmas.Result.{err_from_is_err_and}
use Rattle.replay_answers.proofs.Behind.{behind, behind_none_read, behind_all, behind_more, behind_stops}
use Rattle.replay_answers.proofs.words.numbers.Goals as goal

pub loop-word-init : goal.loop-word-init
loop-word-init c = rw c.new-numbers.ensures.items (behind_none_read _)

pub returns-in_err-number : goal.returns-in_err-number
returns-in_err-number c =
    let list = YieldsList-from_str_split {s = c.into_iter-word-iterator.result} 32 c.args.line.now (lit< tt) (cc) (cc) (cc) in
    let t = YieldsList-turn list c.loop-word.yielded _ c.loop-word.yielded_by _ _ c.in-Some.word c.in-Some.is c.next.ensures.steps in
    let p = err_from_is_err_and c.from_residual.result c.from_residual.ensures.1 in
    rw (p.1, p.2) (λ m. sym c.loop-word.invariant ∙ behind_stops c.loop-word.numbers.items _ _ _ t (rw c.as_bytes.ensures.value at c.in_err-number.ensures.1))

pub loop-word-preserved : goal.loop-word-preserved
loop-word-preserved c =
    let list = YieldsList-from_str_split {s = c.into_iter-word-iterator.result} 32 c.args.line.now (lit< tt) (cc) (cc) (cc) in
    let t = YieldsList-turn list c.loop-word.yielded _ c.loop-word.yielded_by _ _ c.in-Some.word c.in-Some.is c.next.ensures.steps in
    rw (
      c.in_ok-push.ensures.items,
      length_push c.loop-word.yielded c.in-Some.word,
      ← behind_more c.loop-word.numbers.items _ _ _ _ t (rw c.as_bytes.ensures.value at c.in_ok-number.ensures),
    ) c.loop-word.invariant

pub returns : goal.returns
returns c =
    let list = YieldsList-from_str_split {s = c.into_iter-word-iterator.result} 32 c.args.line.now (lit< tt) (cc) (cc) (cc) in
    let t = YieldsList-end list c.loop-word.yielded _ c.loop-word.yielded_by _ _ c.in-None.is c.next.ensures.steps in
    sym c.loop-word.invariant ∙ at_drop_all (behind c.loop-word.numbers.items) _ (length c.loop-word.yielded) (omega (arith, t.1)) ∙ behind_all _
