-- `sheet_values::doubles` meets its contract. The invariant: the first k cells are filled.
use mathlib.Core.Path.{◌≡◌}
use Prim.Native.Nat.{◌+◌}
use Rattle.matrix.specs.Arrays.{updated}
use Rattle.sheet_words.specs.Words.{words_of}
use Rattle.sheet_values.specs.Values.{double_of}
use Rattle.sheet_values.proofs.doubles.Given as goal

abbrev pub invariant-loop-k : goal.invariant-loop-k
invariant-loop-k l = l.out ≡ updated l.k (λ j x. double_of (words_of l.part) (l.i + j)) l.initial.out
