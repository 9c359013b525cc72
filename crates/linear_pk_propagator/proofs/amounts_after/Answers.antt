-- `linear_pk_propagator::amounts_after` meets its contract.
use mathlib.Core.Bool.{cond}
use Prim.Native.Nat.{ℕ}
use borrow.Author.Rules.{rules}
use borrow.Author.Tests.{lt-ltb}
use lib.Dec.{ltb}
use lib.ListN.{length}
use lib.Ieee.{Float}
use Rattle.limits.specs.Limits.{states}
use Rattle.binary64.specs.Doubles.{plus_zero}
use Rattle.linear_pk_propagator.specs.Amounts.{amount_to}
use Rattle.matrix.proofs.Filled.{tabulate-front}
use Rattle.matrix.proofs.Made.{made}
use Rattle.linear_pk_propagator.proofs.amounts_after.Goals as goal

pub returns : goal.returns
returns c =
    let s = c.args in
    let n = length s.amounts.now in
    let f : ℕ → Float = λ i. cond (ltb i n) (amount_to s.p.now n s.amounts.now s.rates.now s.duration i n) plus_zero in
    tabulate-front f _ states n c.requires.0 (made states (λ i y q l e. search rules) c.from_fn.ensures.items)
    (λ i l. rw (lt-ltb i n l))
