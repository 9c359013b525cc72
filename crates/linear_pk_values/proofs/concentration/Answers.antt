-- `linear_pk_values::concentration` meets its contract.
use native.Mathlib.Nat.{add-zero}
use Rattle.linear_pk_values.proofs.concentration.Goals as goal

pub bounds-amounts-at : goal.bounds-amounts-at
bounds-amounts-at c = rw c.if-depot.true at c.requires.1

pub returns-then-depot : goal.returns-then-depot
returns-then-depot c = rw c.if-depot.true

pub returns : goal.returns
returns c = rw (c.if-depot.false, add-zero)
