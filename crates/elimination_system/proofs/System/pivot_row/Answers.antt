-- `elimination_system::System::pivot_row` meets its contract: the larger row is kept over the rows behind row k.
use mathlib.Core.Path.{refl}
use Prim.Native.Nat.{◌+◌, ◌-◌}
use borrow.Author.Rules.{rules}
use Rattle.std.proofs.lemmas.Iterator.{YieldsList-from_range}
use Rattle.std.proofs.lemmas.Iterator.Consumers.{fold_from_yields_List}
use Rattle.elimination_system.proofs.Pivots.{larger_row, pivot_all}
use Rattle.elimination_system.proofs.System.pivot_row.Goals as goal

pub returns : goal.returns
returns c =
    let n = c.args.self.now.n in
    let a = c.args.self.now.matrix in
    let k = c.args.k in
    pivot_all n a k c.requires (fold_from_yields_List _ (larger_row n a k) k c.fold.result c.fold.ensures.ran
    (YieldsList-from_range (k + 1) n (n - (k + 1)) refl refl) (λ p i b q e. search rules))
