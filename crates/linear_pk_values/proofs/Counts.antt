-- Both tests of an `&&`, and the number of amounts that pass.
use mathlib.Core.Path.{◌≡◌}
use mathlib.Core.Bool.{Bool, true, ◌&&◌}
use mathlib.Core.List.{List}
use Prim.Native.Nat.{ℕ}
use borrow.Author.Tests.{eqb-true}
use lib.Dec.{eqb}
use lib.ListN.{length}
use lib.Ieee.{Float}
use Rattle.std.proofs.lemmas.Bool.{and_parts}
use Rattle.binary64.specs.Lists.{amounts_pass}

pub and_first : (a b : Bool) → a && b ≡ true → a ≡ true
and_first a b h = (and_parts a b h).0

pub and_second : (a b : Bool) → a && b ≡ true → b ≡ true
and_second a b h = (and_parts a b h).1

-- amounts that pass are n in number
pub amounts-count : (n : ℕ) (xs : List Float) → amounts_pass n xs ≡ true → length xs ≡ n
amounts-count n xs h = eqb-true (length xs) n (and_first (eqb (length xs) n) _ h)
