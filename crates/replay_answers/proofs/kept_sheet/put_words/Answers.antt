-- `replay_answers::kept_sheet::put_words` meets its contract.
use Rattle.std.proofs.Common.{◌≡◌, ℕ, List, ◌∷◌, ◌++◌, ◌+◌, ◌*◌, ◌==◌, false, ◌<◌, ◌≤◌, refl, length, sym, ◌∙◌, eqb, [], arith, rules, tests}
use Rattle.std.specs.Int.{w64, to_le_bytes}
use Rattle.std.proofs.lemmas.Iterator.Splits.{YieldsList-from_slice_split}
use Rattle.std.proofs.lemmas.Iterator.Consumers.{YieldsList-turn, YieldsList-end}
use Rattle.std.proofs.lemmas.List.{length_push, at_drop_all}
use Rattle.std.proofs.lemmas.Result.{err_from_is_err_and}
use Rattle.replay_answers.specs.Sheet.{sheet_words}
use Rattle.replay_answers.proofs.Behind.{behind, behind_none_read, behind_all, behind_more, behind_stops}
use Rattle.replay_answers.proofs.Sheets.{length-bytes_of, bytes_of_more, more_behind}
use Rattle.replay_answers.proofs.kept_sheet.put_words.Goals as goal

not_empty : (text : List ℕ) → false ≡ (length text == 0) → eqb (length text) 0 ≡ false
not_empty text h = grind (arith, h)

pub loop-word-init : goal.loop-word-init
loop-word-init c = ([], behind_none_read _, c.clear.ensures, refl)

pub returns-in_err-number : goal.returns-in_err-number
unfolding sheet_words
returns-in_err-number c =
    let t = YieldsList-turn (YieldsList-from_slice_split {s = c.into_iter-word-iterator.result} _ (λ b. eqb b 32) c.args.text.now (cc) (cc) (cc) (λ x b q k. search (rules, tests)))
    c.loop-word.yielded _ c.loop-word.yielded_by _ _ c.in-Some.word c.in-Some.is c.next.ensures.steps in
    let p = err_from_is_err_and c.from_residual.result c.from_residual.ensures.1 in
    let i = c.loop-word.invariant in
    let e = sym i.1 ∙ behind_stops i.0 _ _ _ t c.in_err-number.ensures.1 in
    rw (p.1, p.2) (c.in_err-number.ensures.0, rw (not_empty c.args.text.now c.if-is_empty.ensures, e) tt)

pub returns-then-is_err : goal.returns-then-is_err
unfolding sheet_words
returns-then-is_err c =
    let t = YieldsList-turn (YieldsList-from_slice_split {s = c.into_iter-word-iterator.result} _ (λ b. eqb b 32) c.args.text.now (cc) (cc) (cc) (λ x b q k. search (rules, tests)))
    c.loop-word.yielded _ c.loop-word.yielded_by _ _ c.in-Some.word c.in-Some.is c.next.ensures.steps in
    let i = c.loop-word.invariant in
    let e = sym i.1 ∙ behind_more i.0 _ _ _ _ t c.in_ok-number.ensures in
    let n : length c.loop-word.bytes.items ≡ 8 * length i.0 = rw i.2 (length-bytes_of i.0) in
    let many : 65544 < length c.loop-word.bytes.items + 8 = grind (arith, c.try_extend_from_slice.ensures.variant, c.if-is_err.ensures.value) in
    let full : 8193 < length (i.0 ++ c.in_ok-number.field-0 ∷ []) = omega (arith, many, n, length_push i.0 c.in_ok-number.field-0) in
    (refl, rw (not_empty c.args.text.now c.if-is_empty.ensures, e) (more_behind 8193 _ _ full))

pub overflow_add-count : goal.overflow_add-count
overflow_add-count c =
    let i = c.loop-word.invariant in
    let n : length c.loop-word.bytes.items ≡ 8 * length i.0 = rw i.2 (length-bytes_of i.0) in
    let few : length c.loop-word.bytes.items ≤ 65544 = grind (arith, c.try_extend_from_slice.ensures.variant, c.if-is_err.ensures.value) in
    omega (arith, few, n, i.3)

pub loop-word-preserved : goal.loop-word-preserved
loop-word-preserved c =
    let t = YieldsList-turn (YieldsList-from_slice_split {s = c.into_iter-word-iterator.result} _ (λ b. eqb b 32) c.args.text.now (cc) (cc) (cc) (λ x b q k. search (rules, tests)))
    c.loop-word.yielded _ c.loop-word.yielded_by _ _ c.in-Some.word c.in-Some.is c.next.ensures.steps in
    let i = c.loop-word.invariant in (
      i.0 ++ c.in_ok-number.field-0 ∷ [],
      rw (
        length_push c.loop-word.yielded c.in-Some.word,
        ← behind_more i.0 _ _ _ _ t c.in_ok-number.ensures,
      ) i.1,
      (let ok : c.try_extend_from_slice.new.self.items ≡ c.loop-word.bytes.items ++ to_le_bytes w64 c.in_ok-number.field-0 =
          grind (arith, c.try_extend_from_slice.ensures.ok, c.if-is_err.ensures.value) in
          rw (ok, i.2) (bytes_of_more i.0 c.in_ok-number.field-0)),
      rw i.3 (sym (length_push i.0 c.in_ok-number.field-0)),
    )

pub returns : goal.returns
unfolding sheet_words
returns c =
    let t = YieldsList-end (YieldsList-from_slice_split {s = c.into_iter-word-iterator.result} _ (λ b. eqb b 32) c.args.text.now (cc) (cc) (cc) (λ x b q k. search (rules, tests)))
    c.loop-word.yielded _ c.loop-word.yielded_by _ _ c.in-None.is c.next.ensures.steps in
    let i = c.loop-word.invariant in
    let e = sym i.1 ∙ at_drop_all (behind i.0) _ (length c.loop-word.yielded) (omega (arith, t.1)) ∙ behind_all _ in
    (i.0, rw (not_empty c.args.text.now c.if-is_empty.ensures, e) refl, i.3, i.2)
