-- `linear_pk::kernel::LinearPk::state_count` meets its contract.
use native.Mathlib.Omega.{arith}
use native.Mathlib.Nat.{add-zero}
use Rattle.linear_pk.specs.LinearPk.{state_count}
use borrow.Author.Tests.{lt-ltb, le-leb, lt-leb}
use Rattle.linear_pk.proofs.kernel.LinearPk.state_count.Goals as goal

pub returns-then-count-gt-VOLUMES : goal.returns-then-count-gt-VOLUMES
unfolding state_count
returns-then-count-gt-VOLUMES c = (
  rw (
    lt-ltb 0 c.args.self.compartments (omega arith),
    lt-leb c.args.self.compartments 3 c.if-count-gt-VOLUMES.true,
  ),
  omega arith,
)

pub returns-then-self : goal.returns-then-self
unfolding state_count
returns-then-self c = (rw (lt-ltb 0 c.args.self.compartments (omega arith), le-leb c.args.self.compartments 3 (omega arith), c.if-self.true), omega arith)

pub returns-else-self : goal.returns-else-self
unfolding state_count
returns-else-self c = (
  rw (
    lt-ltb 0 c.args.self.compartments (omega arith),
    le-leb c.args.self.compartments 3 (omega arith),
    c.if-self.false,
    add-zero,
  ),
  omega arith,
)

pub returns-then-count-eq0 : goal.returns-then-count-eq0
unfolding state_count
returns-then-count-eq0 c = (rw c.if-count-eq0.true, omega arith)
