-- `sheet_kernel::kernel_of` meets its contract.
use mathlib.Core.Path.{sym, ap, ◌∙◌}
use lib.ListN.{replicate}
use Prim.Native.Nat.{ℕ, ◌-◌}
use lib.Ieee.{binary64, of_bits}
use native.Mathlib.Omega.{arith}
use lib.Seq.{length-take-le}
use Rattle.limits.specs.Limits.{most_volumes}
use Rattle.sheet_words.specs.Words.{words_of}
use Rattle.sheet_words.proofs.Bytes.{words-length}
use Rattle.sheet_kernel.proofs.Models.{model_facts}
use Rattle.sheet_kernel.proofs.kernel_of.Goals as goal

pub word-count-requires : goal.word-count-requires
word-count-requires c =
    let f = model_facts (words_of c.args.part.now) c.requires in
    omega (arith, f.some, f.few, f.whole, words-length c.args.part.now)

pub slice_bounds-volumes-end : goal.slice_bounds-volumes-end
slice_bounds-volumes-end c =
    let f = model_facts (words_of c.args.part.now) c.requires in
    omega (arith, f.some, f.few, f.whole, words-length c.args.part.now, c.word-count.ensures)

pub slice_bounds-kernel_from-end : goal.slice_bounds-kernel_from-end
slice_bounds-kernel_from-end c =
    let f = model_facts (words_of c.args.part.now) c.requires in
    sym (length-take-le _ _ (omega (arith, f.some, f.few, f.whole, words-length c.args.part.now, c.word-count.ensures)))

pub slice_bounds-exchange-count : goal.slice_bounds-exchange-count
slice_bounds-exchange-count c =
    let f = model_facts (words_of c.args.part.now) c.requires in
    omega (arith, f.some, f.few, f.whole, words-length c.args.part.now, c.word-count.ensures)

pub slice_bounds-exchange-end : goal.slice_bounds-exchange-end
slice_bounds-exchange-end c =
    let f = model_facts (words_of c.args.part.now) c.requires in
    omega (arith, f.some, f.few, f.whole, words-length c.args.part.now, c.word-count.ensures)

pub slice_bounds-kernel_from-length : goal.slice_bounds-kernel_from-length
slice_bounds-kernel_from-length c =
    let f = model_facts (words_of c.args.part.now) c.requires in
    sym (length-take-le _ _ (omega (arith, f.some, f.few, f.whole, words-length c.args.part.now, c.word-count.ensures)))

pub kernel_from-requires : goal.kernel_from-requires
kernel_from-requires c =
    let f = model_facts (words_of c.args.part.now) c.requires in
    let v = length-take-le c.word-count.result (replicate most_volumes (of_bits binary64 0))
    (omega (arith, f.some, f.few, f.whole, words-length c.args.part.now, c.word-count.ensures)) in
    let e = length-take-le (c.word-count.result - 1) (replicate (most_volumes - 1) (of_bits binary64 0))
    (omega (arith, f.some, f.few, f.whole, words-length c.args.part.now, c.word-count.ensures)) in (
      v ∙ c.word-count.ensures,
      e ∙ ap (λ (n : ℕ). n - 1) c.word-count.ensures,
      omega (arith, v, e, f.some, f.whole, words-length c.args.part.now, c.word-count.ensures),
    )
