-- `linear_pk_values::concentration_list` meets its contract.
use mathlib.Core.Bool.{cond}
use Prim.Native.Nat.{ℕ}
use borrow.Author.Rules.{rules}
use borrow.Author.Tests.{lt-ltb}
use lib.Dec.{ltb}
use lib.ListN.{length}
use lib.Ieee.{Float}
use Rattle.limits.specs.Limits.{most_volumes}
use Rattle.binary64.specs.Doubles.{plus_zero}
use Rattle.linear_pk_values.specs.Concentrations.{concentration}
use Rattle.matrix.proofs.Filled.{tabulate-front}
use Rattle.matrix.proofs.Made.{made}
use Rattle.linear_pk_values.proofs.concentration_list.Goals as goal

pub returns : goal.returns
returns c =
    let s = c.args in
    let n = length s.volumes.now in
    let f : ℕ → Float = λ i. cond (ltb i n) (concentration s.depot s.volumes.now s.amounts.now i) plus_zero in
    tabulate-front f _ most_volumes n c.requires.0 (made most_volumes (λ i y q l e. search rules) c.from_fn.ensures.items)
    (λ i l. rw (lt-ltb i n l))
