use mathlib.Core.Path.{refl, ◌∙◌}
use native.Mathlib.Omega.{arith}
use Prim.Native.Nat.{◌+◌}
use lib.ListN.{length}
use lib.Ieee.{nan}
use Rattle.matrix.specs.Arrays.{updated, updated_from}
use Rattle.matrix.proofs.Updated.{updated_more, updated-all}
use Rattle.sheet_words.specs.Words.{words_of}
use Rattle.sheet_values.specs.Values.{double_of}
use Rattle.sheet_values.proofs.Fill.{whole}
use Rattle.sheet_values.proofs.doubles.Goals as goal

pub loop-k-preserved : goal.loop-k-preserved
loop-k-preserved c =
    let g = c.args in
    updated_more (λ j x. double_of (words_of g.part.now) (g.i + j)) nan c.loop-k.k g.out.now c.loop-k.invariant c.double.ensures

pub returns : goal.returns
returns c =
    let g = c.args in
    let l = c.loop-k in
    updated-all (λ j x. double_of (words_of g.part.now) (g.i + j)) l.k (length g.out.now) g.out.now l.auto.k-end (omega arith)
    l.invariant ∙ whole (λ j. double_of (words_of g.part.now) (g.i + j)) g.out.now

pub loop-k-init : goal.loop-k-init
unfolding updated updated_from
loop-k-init c = refl
